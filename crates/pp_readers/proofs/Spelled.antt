-- What is spelled is read: the rules of expressions, where it holds of what stands within brackets.
use Rattle.std.proofs.Common.{◌≡◌, ◌≢◌, ℕ, zero, suc, ◌+◌, ◌<◌, ◌≤◌, true, cond, List, [], ◌∷◌, ◌++◌, length, Option, Some, None, refl, ap, ◌∙◌, append_assoc, length-append, arith}
use Rattle.std.specs.Prelude.{codes}
use Rattle.pp_syntax.specs.declared.token.Kind.TheVariants as kind
use Rattle.pp_syntax.specs.declared.tree.Expr.{Expr}
use Rattle.pp_syntax.specs.declared.tree.Form.{Form}
use Rattle.pp_syntax.specs.declared.tree.Form.TheVariants as form
use Rattle.pp_syntax.specs.Tokens.{Lexeme}
use Rattle.pp_syntax.specs.TokenValues.{DqOf}
use Rattle.pp_syntax.specs.Phrases as phrases
use Rattle.pp_syntax.specs.Phrases.{◌then◌, Sign, Tight, Listed, MaybeListed}
use Rattle.pp_syntax.specs.Derivation.{SuffixOf, SuffixesOf, ReferenceOf, ReadAsVariable, PairOf, OptionOf, ChoiceOf, kind_of_first}
use Rattle.pp_syntax.specs.Derivation as grammar
use Rattle.pp_readers.specs.Marks.{Found, mark, begins_suffix, reach}
use Rattle.rh_base.specs.Reading.{◌>>=◌}
use Rattle.pp_readers.specs.Values.{dq}
use Rattle.pp_readers.specs.Expressions.{items, maybe_items, enclosed_with, pair_with, option_or, option_with, choice_with, titles_with, reference_with, list_with, map_with, index_with, choices_with, selection_with, suffix_with, suffixes, begins_word, as_variable, form_as_variable}
use Rattle.pp_readers.proofs.Variables.{at_as_variable}
use Rattle.pp_readers.proofs.Solid.{Begun, begun_some, begun_grows, no_close_first, no_default_first}
use Rattle.pp_readers.proofs.Reading.{Fit, fits_first, fits_second, Reads, made, suffix_none}
use Rattle.pp_readers.proofs.Listing.{Closes, bracket_closes, brace_closes, items_read, maybe_items_read}

-- ---- words as variables

-- what is read as a variable is what the reader makes of it
pub variable_is : {x y : Expr} → ReadAsVariable x y → as_variable x ≡ y
variable_is {x} {y} (grammar.base name e g h) = ap (λ (f : Form). record { at = x.at; form = form_as_variable f }) e ∙ made y x.at (form.Var name) h g
variable_is {x} {y} (grammar.index a b key e g h r) =
    ap (λ (f : Form). record { at = x.at; form = form_as_variable f }) e
    ∙ ap (λ (f : Form). record { at = x.at; form = f }) (at_as_variable a key ∙ ap (λ (c : Expr). form.Index c key) (variable_is r))
    ∙ made y x.at (form.Index b key) h g

-- where the first token is a WORD, the test says so
pub begins_of : (us rest : List Lexeme) → kind_of_first us ≡ Some kind.Word → begins_word (us ++ rest) ≡ true
begins_of [] rest h = cc
begins_of (t ∷ us) rest h = let e : t.kind ≡ kind.Word = cc in ap Rattle.pp_readers.specs.Expressions.is_word e

-- and where the test says so, it is one
pub word_of : (us rest : List Lexeme) → us ≢ [] → begins_word (us ++ rest) ≡ true → kind_of_first us ≡ Some kind.Word
word_of us rest n w = Rattle.pp_readers.proofs.Operands.word_here us rest (us ++ rest) refl n w

-- tokens that aren't none are one or more
longer : (us : List Lexeme) → us ≢ [] → 0 < length us
longer [] n = absurd (n refl)
longer (t ∷ us) n = omega arith

module _ (dq_read : (raw v : List ℕ) → DqOf v raw → dq raw ≡ Some v) (e : List Lexeme → Found Expr) (E : Expr → List Lexeme → Type 0) (reads : Reads 0 e E) (begun : (y : Expr) (us : List Lexeme) → E y us → Begun us) where
  -- an expression has a token
  solid : (y : Expr) (us : List Lexeme) → E y us → 0 < length us
  solid y us h = longer us (begun_some us (begun y us h))

  -- an expression and its closing sign are read
  pub enclosed_read : (close : List ℕ) → Closes close → (y : Expr) (us rest : List Lexeme) → (E y then Sign close) us → Fit us → enclosed_with e close (us ++ rest) ≡ Some (y, rest)
  unfolding enclosed_with
  enclosed_read close closes y us rest s f =
      let w : us ++ rest ≡ s.front ++ (s.back ++ rest) = ap (λ r. r ++ rest) s.whole ∙ append_assoc s.front s.back rest in
      let q : reach (s.back ++ rest) ≤ 0 = omega (arith, ap (λ r. reach (r ++ rest)) s.second.1, closes.quiet s.second.0 rest) in
      ap (λ r. e r >>= λ x. mark kind.Sign close x.1 >>= λ r. Some (x.0, r.1)) w
      ∙ ap (λ r. r >>= λ x. mark kind.Sign close x.1 >>= λ r. Some (x.0, r.1)) (reads y s.front (s.back ++ rest) s.first (fits_first s.front s.back s.whole f) q)
      ∙ ap (λ r. mark kind.Sign close (r ++ rest) >>= λ r. Some (y, r.1)) s.second.1
      ∙ ap (λ r. r >>= λ r. Some (y, r.1)) (closes.here s.second.0 rest)

  -- a pair of a map is read
  pub pair_read : Reads 0 (pair_with e) (PairOf E)
  unfolding pair_with
  pair_read p us rest s f l =
      let a = s.second in
      let w : us ++ rest ≡ s.front ++ (a.front ++ (a.back ++ rest)) = ap (λ r. r ++ rest) (s.whole ∙ ap (λ r. s.front ++ r) a.whole) ∙ append_assoc s.front (a.front ++ a.back) rest ∙ ap (λ r. s.front ++ r) (append_assoc a.front a.back rest) in
      let q : reach (a.front ++ (a.back ++ rest)) ≤ 0 = omega (arith, ap (λ r. reach (r ++ (a.back ++ rest))) a.first.1) in
      let fs = fits_second s.front s.back s.whole f in
      ap (λ r. e r >>= λ key. mark kind.Sign (codes "=>") key.1 >>= λ arrow. e arrow.1 >>= λ value. Some ((key.0, value.0), value.1)) w
      ∙ ap (λ r. r >>= λ key. mark kind.Sign (codes "=>") key.1 >>= λ arrow. e arrow.1 >>= λ value. Some ((key.0, value.0), value.1)) (reads p.0 s.front (a.front ++ (a.back ++ rest)) s.first (fits_first s.front s.back s.whole f) q)
      ∙ ap (λ r. mark kind.Sign (codes "=>") (r ++ (a.back ++ rest)) >>= λ arrow. e arrow.1 >>= λ value. Some ((p.0, value.0), value.1)) a.first.1
      ∙ ap (λ r. r >>= λ value. Some ((p.0, value.0), value.1)) (reads p.1 a.back rest a.second (fits_second a.front a.back a.whole fs) l)

  -- an option is read
  pub option_read : Reads 0 (option_with e) (OptionOf E)
  option_read None us rest s f l = ap (λ r. option_with e (r ++ rest)) s.1
  option_read (Some y) us rest s f l =
      ap (λ r. option_or e r (us ++ rest)) (no_default_first us rest (begun y us s)) ∙ ap (λ r. r >>= λ x. Some (Some x.0, x.1)) (reads y us rest s f l)

  -- a choice of a selection is read
  pub choice_read : Reads 0 (choice_with e) (ChoiceOf E)
  unfolding choice_with
  choice_read p us rest s f l =
      let a = s.second in
      let w : us ++ rest ≡ s.front ++ (a.front ++ (a.back ++ rest)) = ap (λ r. r ++ rest) (s.whole ∙ ap (λ r. s.front ++ r) a.whole) ∙ append_assoc s.front (a.front ++ a.back) rest ∙ ap (λ r. s.front ++ r) (append_assoc a.front a.back rest) in
      let q : reach (a.front ++ (a.back ++ rest)) ≤ 0 = omega (arith, ap (λ r. reach (r ++ (a.back ++ rest))) a.first.1) in
      let fs = fits_second s.front s.back s.whole f in
      ap (λ r. option_with e r >>= λ key. mark kind.Sign (codes "=>") key.1 >>= λ arrow. e arrow.1 >>= λ value. Some ((key.0, value.0), value.1)) w
      ∙ ap (λ r. r >>= λ key. mark kind.Sign (codes "=>") key.1 >>= λ arrow. e arrow.1 >>= λ value. Some ((key.0, value.0), value.1)) (option_read p.0 s.front (a.front ++ (a.back ++ rest)) s.first (fits_first s.front s.back s.whole f) q)
      ∙ ap (λ r. mark kind.Sign (codes "=>") (r ++ (a.back ++ rest)) >>= λ arrow. e arrow.1 >>= λ value. Some ((p.0, value.0), value.1)) a.first.1
      ∙ ap (λ r. r >>= λ value. Some ((p.0, value.0), value.1)) (reads p.1 a.back rest a.second (fits_second a.front a.back a.whole fs) l)

  -- ---- lists

  -- expressions to their `]` are read
  exprs_read : (xs : List Expr) (n : ℕ) (us rest : List Lexeme) → (Listed E xs then Sign (codes "]")) us → Fit us → length us < n → items (codes "]") e n (us ++ rest) ≡ Some (xs, rest)
  exprs_read = items_read (codes "]") bracket_closes e E reads solid (λ y us rest h. no_close_first (codes "]") refl refl refl refl us rest (begun y us h))

  -- the titles of a reference are read
  pub titles_read : (xs : List Expr) (us rest : List Lexeme) → (Tight then (Listed E xs then Sign (codes "]"))) us → Fit us → titles_with e (us ++ rest) ≡ Some (xs, rest)
  unfolding titles_with
  titles_read xs us rest s f =
      let w : us ++ rest ≡ s.front ++ (s.back ++ rest) = ap (λ r. r ++ rest) s.whole ∙ append_assoc s.front s.back rest in
      ap (λ r. mark kind.Tight (codes "[") r >>= λ o. items (codes "]") e (length o.1 + 1) o.1) w
      ∙ ap (λ r. mark kind.Tight (codes "[") (r ++ (s.back ++ rest)) >>= λ o. items (codes "]") e (length o.1 + 1) o.1) s.first.1
      ∙ exprs_read xs (length (s.back ++ rest) + 1) s.back rest s.second (fits_second s.front s.back s.whole f) (omega (arith, length-append s.back rest))

  -- a reference is read
  pub reference_read : (y : Expr) (us rest : List Lexeme) → ReferenceOf E y us → Fit us → reference_with e (us ++ rest) ≡ Some (y, rest)
  reference_read y us rest r f =
      let s = r.spelled in
      let w : us ++ rest ≡ record { kind = kind.Ref; text = r.name; at = y.at } ∷ (s.back ++ rest) = ap (λ u. u ++ rest) (s.whole ∙ ap (λ u. u ++ s.back) s.first) in
      ap (reference_with e) w
      ∙ ap (λ u. u >>= λ x. Some (record { at = y.at; form = form.Refer r.name x.0 }, x.1)) (titles_read r.titles s.back rest s.second (fits_second s.front s.back s.whole f))
      ∙ ap (λ z. Some (z, rest)) (made y y.at (form.Refer r.name r.titles) refl r.form_is)

  -- a list is read
  pub list_read : (y : Expr) (ms : List Expr) (us rest : List Lexeme) → (phrases.Token kind.Loose (codes "[") y.at then (MaybeListed E ms then Sign (codes "]"))) us → y.form ≡ form.List ms → Fit us → list_with e (us ++ rest) ≡ Some (y, rest)
  unfolding list_with
  list_read y ms us rest s is f =
      let w : us ++ rest ≡ record { kind = kind.Loose; text = codes "["; at = y.at } ∷ (s.back ++ rest) = ap (λ u. u ++ rest) (s.whole ∙ ap (λ u. u ++ s.back) s.first) in
      ap (λ r. mark kind.Loose (codes "[") r >>= λ o. maybe_items (codes "]") e (length o.1 + 1) o.1 >>= λ xs. Some (record { at = o.0; form = form.List xs.0 }, xs.1)) w
      ∙ ap (λ r. r >>= λ xs. Some (record { at = y.at; form = form.List xs.0 }, xs.1))
      (maybe_items_read (codes "]") bracket_closes e E reads solid (λ y us rest h. no_close_first (codes "]") refl refl refl refl us rest (begun y us h)) ms (length (s.back ++ rest) + 1) s.back rest s.second (fits_second s.front s.back s.whole f) (omega (arith, length-append s.back rest)))
      ∙ ap (λ z. Some (z, rest)) (made y y.at (form.List ms) refl is)

  -- a pair begins as an expression does
  pair_begun : (p : Expr × Expr) (us : List Lexeme) → PairOf E p us → Begun us
  pair_begun p us s = begun_grows s.front s.back s.whole (begun p.0 s.front s.first)

  -- a map is read
  pub map_read : (y : Expr) (ps : List (Expr × Expr)) (us rest : List Lexeme) → (phrases.Token kind.Sign (codes "{") y.at then (MaybeListed (PairOf E) ps then Sign (codes "}"))) us → y.form ≡ form.Map ps → Fit us → map_with e (us ++ rest) ≡ Some (y, rest)
  unfolding map_with
  map_read y ps us rest s is f =
      let w : us ++ rest ≡ record { kind = kind.Sign; text = codes "{"; at = y.at } ∷ (s.back ++ rest) = ap (λ u. u ++ rest) (s.whole ∙ ap (λ u. u ++ s.back) s.first) in
      ap (λ r. mark kind.Sign (codes "{") r >>= λ o. maybe_items (codes "}") (pair_with e) (length o.1 + 1) o.1 >>= λ xs. Some (record { at = o.0; form = form.Map xs.0 }, xs.1)) w
      ∙ ap (λ r. r >>= λ xs. Some (record { at = y.at; form = form.Map xs.0 }, xs.1))
      (maybe_items_read (codes "}") brace_closes (pair_with e) (PairOf E) pair_read (λ p us h. longer us (begun_some us (pair_begun p us h))) (λ p us rest h. no_close_first (codes "}") refl refl refl refl us rest (pair_begun p us h))
      ps (length (s.back ++ rest) + 1) s.back rest s.second (fits_second s.front s.back s.whole f) (omega (arith, length-append s.back rest)))
      ∙ ap (λ z. Some (z, rest)) (made y y.at (form.Map ps) refl is)

  -- ---- indexes and selections

  -- a choice has a token
  choice_solid : (c : Option Expr × Expr) (us : List Lexeme) → ChoiceOf E c us → 0 < length us
  choice_solid c us s = omega (arith, ap length s.whole, length-append s.front s.back, ap length s.second.whole, length-append s.second.front s.second.back, ap length s.second.first.1)

  -- a choice doesn't begin with `}`
  choice_apart : (c : Option Expr × Expr) (us rest : List Lexeme) → ChoiceOf E c us → mark kind.Sign (codes "}") (us ++ rest) ≡ None
  choice_apart c us rest s = ap (λ r. mark kind.Sign (codes "}") (r ++ rest)) s.whole ∙ ap (mark kind.Sign (codes "}")) (append_assoc s.front s.back rest) ∙ first c.0 s.front s.first
    where
      first : (o : Option Expr) (vs : List Lexeme) → OptionOf E o vs → mark kind.Sign (codes "}") (vs ++ (s.back ++ rest)) ≡ None
      first None vs h = ap (λ r. mark kind.Sign (codes "}") (r ++ (s.back ++ rest))) h.1
      first (Some y) vs h = no_close_first (codes "}") refl refl refl refl vs (s.back ++ rest) (begun y vs h)

  -- an index or a selection is read, and the test says that one begins
  suffix_read : (at : ℕ) (x z : Expr) (us rest : List Lexeme) → SuffixOf E x z us → z.at ≡ at → Fit us → (begins_suffix (us ++ rest) ≡ true) × (suffix_with e at x (us ++ rest) ≡ Some (z, rest)) × (0 < length us)
  unfolding index_with selection_with choices_with
  suffix_read at x z us rest (grammar.index key s is) place f =
      let w : us ++ rest ≡ record { kind = kind.Tight; text = codes "["; at = s.first.0 } ∷ (s.back ++ rest) = ap (λ u. u ++ rest) (s.whole ∙ ap (λ u. u ++ s.back) s.first.1) in (
        ap begins_suffix w,
        ap (suffix_with e at x) w
            ∙ ap (λ r. r >>= λ key. Some (record { at = at; form = form.Index x key.0 }, key.1)) (enclosed_read (codes "]") bracket_closes key s.back rest s.second (fits_second s.front s.back s.whole f))
            ∙ ap (λ y. Some (y, rest)) (made z at (form.Index x key) place is),
        omega (arith, ap length s.whole, length-append s.front s.back, ap length s.first.1),
      )
  suffix_read at x z us rest (grammar.selection choices s is) place f =
      let b = s.second in
      let w : us ++ rest ≡ record { kind = kind.Sign; text = codes "?"; at = s.first.0 } ∷ (record { kind = kind.Sign; text = codes "{"; at = b.first.0 } ∷ (b.back ++ rest)) =
      ap (λ u. u ++ rest) (s.whole ∙ ap (λ u. u ++ s.back) s.first.1 ∙ ap (λ u. record { kind = kind.Sign; text = codes "?"; at = s.first.0 } ∷ u) (b.whole ∙ ap (λ u. u ++ b.back) b.first.1)) in
      let fb = fits_second b.front b.back b.whole (fits_second s.front s.back s.whole f) in (
        ap begins_suffix w,
        ap (suffix_with e at x) w
            ∙ ap (λ r. r >>= λ cs. Some (record { at = at; form = form.Select x cs.0 }, cs.1))
            (items_read (codes "}") brace_closes (choice_with e) (ChoiceOf E) choice_read choice_solid choice_apart choices (length (b.back ++ rest) + 1) b.back rest b.second fb (omega (arith, length-append b.back rest)))
            ∙ ap (λ y. Some (y, rest)) (made z at (form.Select x choices) place is),
        omega (arith, ap length s.whole, length-append s.front s.back, ap length s.first.1),
      )

  -- indexes and selections are read, before anything that is none of them
  pub suffixes_read : (at n : ℕ) (x y : Expr) (us rest : List Lexeme) → SuffixesOf E at x y us → Fit us → reach rest ≤ 7 → length us < n → suffixes e at n x (us ++ rest) ≡ Some (y, rest)
  suffixes_read at zero x y us rest h f l t = absurd (omega arith)
  suffixes_read at (suc n) x y us rest (grammar.none p q) f l t =
      ap (λ r. suffixes e at (suc n) x (r ++ rest)) q ∙ ap (λ v. cond v (suffix_with e at x rest >>= λ z. suffixes e at n z.0 z.1) (Some (x, rest))) (suffix_none rest l) ∙ ap (λ z. Some (z, rest)) p
  suffixes_read at (suc n) x y us rest (grammar.one z front back w h place more) f l t =
      let e1 : us ++ rest ≡ front ++ (back ++ rest) = ap (λ r. r ++ rest) w ∙ append_assoc front back rest in
      let s = suffix_read at x z front (back ++ rest) h place (fits_first front back w f) in
      ap (suffixes e at (suc n) x) e1
      ∙ ap (λ v. cond v (suffix_with e at x (front ++ (back ++ rest)) >>= λ z. suffixes e at n z.0 z.1) (Some (x, front ++ (back ++ rest)))) s.0
      ∙ ap (λ r. r >>= λ z. suffixes e at n z.0 z.1) s.1
      ∙ suffixes_read at n z y back rest more (fits_second front back w f) l (omega (arith, ap length w, length-append front back, s.2))
