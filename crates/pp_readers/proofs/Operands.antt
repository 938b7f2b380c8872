-- What is read is spelled: texts in quotes, operands, and whole expressions.
use Rattle.std.proofs.Common.{◌≡◌, ◌≢◌, ◌⊎◌, inl, inr, ℕ, zero, suc, ◌+◌, ◌==◌, ◌^◌, Bool, true, false, ◌||◌, cond, List, [], ◌∷◌, ◌++◌, length, Option, Some, None, refl, sym, ap, subst, ◌∙◌}
use Rattle.std.specs.Prelude.{codes, pos, nat_lt}
use Rattle.std.specs.Option.{option_map}
use Rattle.std.specs.Str.{bytes_eq}
use Rattle.std.proofs.lemmas.Bool.{or_left}
use Rattle.std.proofs.lemmas.List.{append-nil}
use Rattle.std.proofs.lemmas.Slice.Eq.{bytes_eq-Decides}
use Rattle.pp_syntax.specs.declared.token.Kind.{Kind}
use Rattle.pp_syntax.specs.declared.token.Kind.TheVariants as kind
use Rattle.pp_syntax.specs.declared.tree.Expr.{Expr}
use Rattle.pp_syntax.specs.declared.tree.Form.{Form}
use Rattle.pp_syntax.specs.declared.tree.Form.TheVariants as form
use Rattle.pp_syntax.specs.Tokens.{Lexeme, int_value}
use Rattle.pp_syntax.specs.TokenValues.{SqOf, DqOf, sq_value}
use Rattle.pp_syntax.specs.Phrases as phrases
use Rattle.pp_syntax.specs.Phrases.{◌then◌, Sign, Keyword}
use Rattle.pp_syntax.specs.Derivation.{PrimaryOf, StringOf, PlainOf, MemberOf, Members, InnerOf, ReadAsVariable, is_part, has_part, kind_of_first}
use Rattle.pp_syntax.specs.Derivation as grammar
use Rattle.pp_readers.specs.Marks.{Found, mark}
use Rattle.rh_base.specs.Reading.{◌>>=◌}
use Rattle.pp_readers.specs.Values.{name_of, behind_byte, atom, int_form, literal, sq, dq, before_quote}
use Rattle.pp_readers.specs.Parsed.{Begins}
use Rattle.pp_readers.specs.Expressions.{primary_by, primary_with, atom_of, atom_at, string_by, string_with, double_with, quoted_with, members, member_with, member_by, with_member, end_or_member, joined, plain_of, part_with, hole_with, inner_with, inner_of, begins_word, is_word, as_variable}
use Rattle.pp_readers.proofs.Tokens.{joins, maps, marked, marked_at}
use Rattle.pp_readers.proofs.Finding.{Finds, parts}
use Rattle.pp_readers.proofs.Found.{Spells, solid, reference_found, list_found, opened_found}
use Rattle.pp_readers.proofs.Variables.{Stays, variable_found}
use Rattle.pp_readers.proofs.Escapes.{before_found}
use Rattle.pp_readers.proofs.Digits.{behind_some}
use Rattle.pp_syntax.proofs.Escapes.{map_some}
use Rattle.rh_base.proofs.Options.{bind_some}

-- ---- single tokens

-- a text in single quotes that has a value is spelled so
pub sq_found : (s v : List ℕ) → sq s ≡ Some v → SqOf v s
unfolding sq
sq_found s v h =
    let a = bind_some (behind_byte 39 s) (λ r. option_map sq_value (before_quote r)) v h in
    inside a.0 (behind_some 39 s a.0 a.1) (before_quote a.0) refl a.2
  where
    inside : (r : List ℕ) → s ≡ 39 ∷ r → (q : Option (List ℕ)) → before_quote r ≡ q → option_map sq_value q ≡ Some v → SqOf v s
    inside r e None p k = cc
    inside r e (Some raw) p k = let same : sq_value raw ≡ v = cc in (raw, e ∙ ap (λ u. 39 ∷ u) (before_found r raw p), sym same)

-- a token of this kind, by itself
token_of : (k : Kind) (t : Lexeme) → t.kind ≡ k → phrases.Token k t.text t.at (t ∷ [])
token_of k t is = ap (λ (k : Kind). record { kind = k; text = t.text; at = t.at } ∷ []) is

module _ (E : Expr → List Lexeme → Type 0) where
  -- an INT that has a form is an operand spelled so
  int_found : (t : Lexeme) (f : Form) → t.kind ≡ kind.Int → int_form t.text ≡ Some f → PrimaryOf E (record { at = t.at; form = f }) (t ∷ [])
  int_found t f is h = by_test (nat_lt (int_value t.text) (2 ^ 63)) h
    where
      by_test : (v : Bool) → cond v (Some (form.Int (pos (int_value t.text)))) None ≡ Some f → PrimaryOf E (record { at = t.at; form = f }) (t ∷ [])
      by_test true k = let same : form.Int (pos (int_value t.text)) ≡ f = cc in grammar.int t.text (token_of kind.Int t is) (sym same)
      by_test false k = cc

  -- `true`, `false` and `undef` are operands spelled so
  literal_found : (t : Lexeme) (f : Form) → t.kind ≡ kind.Keyword → literal t.text ≡ Some f → PrimaryOf E (record { at = t.at; form = f }) (t ∷ [])
  literal_found t f is h = by_tests (bytes_eq t.text (codes "true")) (bytes_eq t.text (codes "false")) (bytes_eq t.text (codes "undef")) refl refl refl h
    where
      keyword : (s : List ℕ) → bytes_eq t.text s ≡ true → phrases.Token kind.Keyword s t.at (t ∷ [])
      keyword s q = token_of kind.Keyword t is ∙ ap (λ (u : List ℕ). record { kind = kind.Keyword; text = u; at = t.at } ∷ []) ((bytes_eq-Decides t.text s).0 q)

      by_tests : (a b c : Bool) → bytes_eq t.text (codes "true") ≡ a → bytes_eq t.text (codes "false") ≡ b → bytes_eq t.text (codes "undef") ≡ c
          → cond a (Some (form.Bool true)) (cond b (Some (form.Bool false)) (cond c (Some form.Undef) None)) ≡ Some f → PrimaryOf E (record { at = t.at; form = f }) (t ∷ [])
      by_tests true b c p q r k = let same : form.Bool true ≡ f = cc in grammar.truth (keyword (codes "true") p) (sym same)
      by_tests false true c p q r k = let same : form.Bool false ≡ f = cc in grammar.falsehood (keyword (codes "false") q) (sym same)
      by_tests false false true p q r k = let same : form.Undef ≡ f = cc in grammar.undefined (keyword (codes "undef") r) (sym same)
      by_tests false false false p q r k = cc

  -- a text in single quotes that has a form is a string spelled so
  sq_string : (t : Lexeme) (f : Form) → t.kind ≡ kind.Sq → option_map form.Str (sq t.text) ≡ Some f → StringOf E (record { at = t.at; form = f }) (t ∷ [])
  sq_string t f is h = let a = map_some form.Str (sq t.text) f h in grammar.single a.0 t.text (token_of kind.Sq t is) (sq_found t.text a.0 a.1) (sym a.2)

  -- a token that has a form by its kind is an operand spelled so
  atom_kind : (k : Kind) (t : Lexeme) (f : Form) → t.kind ≡ k → atom k t.text ≡ Some f → PrimaryOf E (record { at = t.at; form = f }) (t ∷ [])
  atom_kind kind.Int t f is h = int_found t f is h
  atom_kind kind.Sq t f is h = grammar.string (sq_string t f is h)
  atom_kind kind.Word t f is h = let same : form.Str t.text ≡ f = cc in grammar.word t.text (token_of kind.Word t is) (sym same)
  atom_kind kind.Var t f is h =
      let a = map_some form.Var (name_of t.text) f h in
      grammar.variable a.0 (token_of kind.Var t is ∙ ap (λ (u : List ℕ). record { kind = kind.Var; text = u; at = t.at } ∷ []) (behind_some 36 t.text a.0 a.1)) (sym a.2)
  atom_kind kind.Keyword t f is h = literal_found t f is h
  atom_kind kind.Ref t f is h = cc
  atom_kind kind.Float t f is h = cc
  atom_kind kind.DqOpen t f is h = cc
  atom_kind kind.DqText t f is h = cc
  atom_kind kind.DqVar t f is h = cc
  atom_kind kind.Hole t f is h = cc
  atom_kind kind.HoleEnd t f is h = cc
  atom_kind kind.DqClose t f is h = cc
  atom_kind kind.Tight t f is h = cc
  atom_kind kind.Loose t f is h = cc
  atom_kind kind.Sign t f is h = cc
  atom_kind kind.LeftOut t f is h = cc

  -- what is read of one token is an operand spelled so
  atom_found : (t : Lexeme) (ts : List Lexeme) (x : Expr × List Lexeme) → atom_at t ts ≡ Some x → Begins (PrimaryOf E x.0) (t ∷ ts) x.1
  atom_found t ts x h =
      let a = bind_some (atom_of t) (λ x. Some (x, ts)) x h in
      let b = bind_some (atom t.kind t.text) (λ f. Some record { at = t.at; form = f }) a.0 a.1 in
      let one : record { at = t.at; form = b.0 } ≡ a.0 = cc in
      let same : ◌≡◌ {A = Expr × List Lexeme} (record { at = t.at; form = b.0 }, ts) x = cc in
      subst (λ (y : Expr × List Lexeme). Begins (PrimaryOf E y.0) (t ∷ ts) y.1) same (record { front = t ∷ []; spelled = atom_kind t.kind t b.0 refl b.1; whole = refl })

-- ---- texts in double quotes

-- a variable or an expression is in two parts where it is in one of them
pub part-append : (a b : List Lexeme) → has_part (a ++ b) ≡ (has_part a || has_part b)
part-append [] b = refl
part-append (t ∷ a) b = by_kind (is_part t.kind) (part-append a b)
  where
    by_kind : (v : Bool) → has_part (a ++ b) ≡ (has_part a || has_part b) → (v || has_part (a ++ b)) ≡ ((v || has_part a) || has_part b)
    by_kind true e = refl
    by_kind false e = e

-- the first token is a WORD
pub word_here : (us rest ts : List Lexeme) → ts ≡ us ++ rest → us ≢ [] → begins_word ts ≡ true → kind_of_first us ≡ Some kind.Word
word_here [] rest ts h n w = absurd (n refl)
word_here (t ∷ us) rest ts h n w = ap Some (word_is t.kind (sym (ap begins_word h) ∙ w))
  where
    word_is : (k : Kind) → is_word k ≡ true → k ≡ kind.Word
    word_is kind.Word p = refl
    word_is kind.Ref p = cc
    word_is kind.Var p = cc
    word_is kind.Int p = cc
    word_is kind.Float p = cc
    word_is kind.Sq p = cc
    word_is kind.DqOpen p = cc
    word_is kind.DqText p = cc
    word_is kind.DqVar p = cc
    word_is kind.Hole p = cc
    word_is kind.HoleEnd p = cc
    word_is kind.DqClose p = cc
    word_is kind.Tight p = cc
    word_is kind.Loose p = cc
    word_is kind.Keyword p = cc
    word_is kind.Sign p = cc
    word_is kind.LeftOut p = cc

module _ (dq_found : (raw v : List ℕ) → dq raw ≡ Some v → DqOf v raw) (e : List Lexeme → Found Expr) (E : Expr → List Lexeme → Type 0) (finds : Finds e E) (never : Spells E) where
  -- where no WORD is told to stand first, none does
  no_word_first : (us rest ts : List Lexeme) → ts ≡ us ++ rest → begins_word ts ≡ false → kind_of_first us ≡ Some kind.Word → ⊥
  no_word_first [] rest ts h w k = cc
  no_word_first (t ∷ us) rest ts h w k =
      let is : t.kind ≡ kind.Word = cc in
      let yes : true ≡ false = sym (ap is_word is) ∙ sym (ap begins_word h) ∙ w in
      cc

  -- an expression in `${`, read as a variable where a WORD stands first, is what may stand there
  inner_by : (v : Bool) (ts : List Lexeme) (y : Expr) (rest : List Lexeme) → begins_word ts ≡ v → Begins (E y) ts rest → Begins (InnerOf E (inner_of v y)) ts rest
  inner_by false ts y rest w b = record { front = b.front; spelled = grammar.other b.spelled (λ k. absurd (no_word_first b.front rest ts b.whole w k)); whole = b.whole }
  inner_by true ts y rest w b = record { front = b.front; spelled = by_variable (variable_found y.at y.form); whole = b.whole }
    where
      by_variable : ReadAsVariable y (as_variable y) ⊎ Stays y → InnerOf E (as_variable y) b.front
      by_variable (inl r) = grammar.InnerOf.variable y (word_here b.front rest ts b.whole (solid E y ts rest never b) w) b.spelled r
      by_variable (inr n) = subst (λ (z : Expr). InnerOf E z b.front) (sym n.1) (grammar.other b.spelled (λ k. n.0))

  -- what is read within `${` and `}` is spelled so
  inner_found : Finds (inner_with e) (InnerOf E)
  unfolding inner_with
  inner_found ts x h =
      let a = bind_some (e ts) (λ x. Some (inner_of (begins_word ts) x.0, x.1)) x h in
      let same : ◌≡◌ {A = Expr × List Lexeme} (inner_of (begins_word ts) a.0.0, a.0.1) x = cc in
      subst (λ (y : Expr × List Lexeme). Begins (InnerOf E y.0) ts y.1) same (inner_by (begins_word ts) ts a.0.0 a.0.1 refl (finds ts a.0 a.1))

  -- what is read as `${`, an expression and `}` is spelled so
  part_found : Finds (part_with e) (λ y us. (phrases.Some kind.Hole (codes "${") then (InnerOf E y then phrases.Some kind.HoleEnd (codes "}"))) us)
  unfolding part_with hole_with
  part_found ts x h =
      let o = bind_some (mark kind.Hole (codes "${") ts) (λ o. hole_with e o.1) x h in
      let a = bind_some (inner_with e o.0.1) (λ x. mark kind.HoleEnd (codes "}") x.1 >>= λ r. Some (x.0, r.1)) x o.2 in
      let b = bind_some (mark kind.HoleEnd (codes "}") a.0.1) (λ r. Some (a.0.0, r.1)) x a.2 in
      let same : ◌≡◌ {A = Expr × List Lexeme} (a.0.0, b.0.1) x = cc in
      subst (λ (y : Expr × List Lexeme). Begins (phrases.Some kind.Hole (codes "${") then (InnerOf E y.0 then phrases.Some kind.HoleEnd (codes "}"))) ts y.1) same
      (joins (marked kind.Hole (codes "${") ts o.0 o.1) (joins (inner_found o.0.1 a.0 a.1) (marked kind.HoleEnd (codes "}") a.0.1 b.0 b.1)))

  -- a member, and whether it is a variable or an expression
  Piece : Expr × Bool → List Lexeme → Type 0
  Piece m us = MemberOf E m.0 us × (has_part us ≡ m.1)

  -- such tokens have an expression among them
  hole_has_part : (y : Expr) (us : List Lexeme) → (phrases.Some kind.Hole (codes "${") then (InnerOf E y then phrases.Some kind.HoleEnd (codes "}"))) us → has_part us ≡ true
  hole_has_part y us s = ap has_part s.whole ∙ part-append s.front s.back ∙ or_left (has_part s.front) (has_part s.back) (ap has_part s.first.1)

  -- what is read by its kind is a member of a text in double quotes, spelled so
  member_kind : (k : Kind) (t : Lexeme) (ts : List Lexeme) (x : (Expr × Bool) × List Lexeme) → t.kind ≡ k → member_by e k t ts (t ∷ ts) ≡ Some x → Begins (Piece x.0) (t ∷ ts) x.1
  unfolding Piece
  member_kind kind.DqText t ts x is h =
      let a = bind_some (dq t.text) (λ v. Some ((record { at = t.at; form = form.Str v }, false), ts)) x h in
      let same : ◌≡◌ {A = (Expr × Bool) × List Lexeme} ((record { at = t.at; form = form.Str a.0 }, false), ts) x = cc in
      subst (λ (y : (Expr × Bool) × List Lexeme). Begins (Piece y.0) (t ∷ ts) y.1) same
      (record { front = t ∷ []; spelled = (grammar.MemberOf.text a.0 t.text (token_of kind.DqText t is) (dq_found t.text a.0 a.1) refl, ap (λ (k : Kind). is_part k || false) is); whole = refl })
  member_kind kind.DqVar t ts x is h =
      let a = bind_some (name_of t.text) (λ v. Some ((record { at = t.at; form = form.Var v }, true), ts)) x h in
      let same : ◌≡◌ {A = (Expr × Bool) × List Lexeme} ((record { at = t.at; form = form.Var a.0 }, true), ts) x = cc in
      subst (λ (y : (Expr × Bool) × List Lexeme). Begins (Piece y.0) (t ∷ ts) y.1) same
      (record {
        front = t ∷ [];
        spelled = (grammar.MemberOf.variable a.0 (token_of kind.DqVar t is ∙ ap (λ (u : List ℕ). record { kind = kind.DqVar; text = u; at = t.at } ∷ []) (behind_some 36 t.text a.0 a.1)) refl, ap (λ (k : Kind). is_part k || false) is);
        whole = refl;
      })
  member_kind kind.Hole t ts x is h =
      let a = bind_some (part_with e (t ∷ ts)) (λ x. Some ((x.0, true), x.1)) x h in
      let same : ◌≡◌ {A = (Expr × Bool) × List Lexeme} ((a.0.0, true), a.0.1) x = cc in
      subst (λ (y : (Expr × Bool) × List Lexeme). Begins (Piece y.0) (t ∷ ts) y.1) same (maps (λ us s. (grammar.hole s, hole_has_part a.0.0 us s)) (part_found (t ∷ ts) a.0 a.1))
  member_kind kind.Word t ts x is h = cc
  member_kind kind.Ref t ts x is h = cc
  member_kind kind.Var t ts x is h = cc
  member_kind kind.Int t ts x is h = cc
  member_kind kind.Float t ts x is h = cc
  member_kind kind.Sq t ts x is h = cc
  member_kind kind.DqOpen t ts x is h = cc
  member_kind kind.HoleEnd t ts x is h = cc
  member_kind kind.DqClose t ts x is h = cc
  member_kind kind.Tight t ts x is h = cc
  member_kind kind.Loose t ts x is h = cc
  member_kind kind.Keyword t ts x is h = cc
  member_kind kind.Sign t ts x is h = cc
  member_kind kind.LeftOut t ts x is h = cc

  -- what is read as a member of a text in double quotes is spelled so
  member_found : Finds (member_with e) Piece
  member_found [] x h = cc
  member_found (t ∷ ts) x h = member_kind t.kind t ts x refl h

  -- members that are found with one more in front come from members that are found
  with_member_some : (m : Expr × Bool) (r : Found (List Expr × Bool)) (y : (List Expr × Bool) × List Lexeme) → with_member m r ≡ Some y → (z : (List Expr × Bool) × List Lexeme) × (r ≡ Some z) × (((m.0 ∷ z.0.0, m.1 || z.0.1), z.1) ≡ y)
  with_member_some m None y h = cc
  with_member_some m (Some z) y h = (z, refl, cc)

  -- members, and whether a variable or an expression is among them
  Pieces : List Expr × Bool → List Lexeme → Type 0
  Pieces r us = Members E r.0 us × (has_part us ≡ r.1)

  -- the closing double quote
  Close : List Lexeme → Type 0
  Close = phrases.Some kind.DqClose (codes "\"")

  -- a member before members makes members, to the closing quote
  one_more : (m : Expr × Bool) (r : List Expr × Bool) (ts mid rest : List Lexeme) → Begins (Piece m) ts mid → Begins (Pieces r then Close) mid rest → Begins (Pieces (m.0 ∷ r.0, m.1 || r.1) then Close) ts rest
  unfolding Piece Pieces joins
  one_more m r ts mid rest a b =
      let p = parts b in
      let first : Begins (MemberOf E m.0) ts mid = record { front = a.front; spelled = a.spelled.0; whole = a.whole } in
      let others : Begins (Members E r.0) mid p.0 = record { front = p.1.front; spelled = p.1.spelled.0; whole = p.1.whole } in
      let both = joins first others in
      let flagged : Begins (Pieces (m.0 ∷ r.0, m.1 || r.1)) ts p.0 = record {
        front = both.front;
        spelled = (both.spelled, part-append a.front p.1.front ∙ ap (λ v. v || has_part p.1.front) a.spelled.1 ∙ ap (λ v. m.1 || v) p.1.spelled.1);
        whole = both.whole;
      } in
      joins flagged p.2

  -- what is read as members to the closing quote is spelled so
  members_found : (n : ℕ) → Finds (members e n) (λ r. Pieces r then Close)
  unfolding Pieces Close
  members_found zero ts x h = cc
  members_found (suc n) ts x h = by_close (members_found n) (mark kind.DqClose (codes "\"") ts) refl h
    where
      by_close : Finds (members e n) (λ r. Pieces r then Close) → (r : Found ℕ) → mark kind.DqClose (codes "\"") ts ≡ r → end_or_member e (members e n) r ts ≡ Some x → Begins (Pieces x.0 then Close) ts x.1
      by_close others None p k =
          let a = bind_some (member_with e ts) (λ m. with_member m.0 (members e n m.1)) x k in
          let b = with_member_some a.0.0 (members e n a.0.1) x a.2 in
          subst (λ (y : (List Expr × Bool) × List Lexeme). Begins (Pieces y.0 then Close) ts y.1) b.2 (one_more a.0.0 b.0.0 ts a.0.1 b.0.1 (member_found ts a.0 a.1) (others a.0.1 b.0 b.1))
      by_close others (Some r) p k =
          let same : ◌≡◌ {A = (List Expr × Bool) × List Lexeme} (([], false), r.1) x = cc in
          let none : Begins (Pieces ([], false)) ts ts = record { front = []; spelled = (refl, refl); whole = refl } in
          subst (λ (y : (List Expr × Bool) × List Lexeme). Begins (Pieces y.0 then Close) ts y.1) same (joins none (marked kind.DqClose (codes "\"") ts r p))

  -- one member that is neither a variable nor an expression is text
  alone : (m : Expr) (us : List Lexeme) → MemberOf E m us → has_part us ≡ false → (value : List ℕ) × (m.form ≡ form.Str value) × PlainOf value us
  alone m us (grammar.MemberOf.text value raw token value_is form_is) none = (value, form_is, grammar.PlainOf.text raw m.at token value_is)
  alone m us (grammar.MemberOf.variable name token form_is) none = let no : true ≡ false = sym (ap has_part token) ∙ none in cc
  alone m us (grammar.hole s) none = let no : true ≡ false = sym (hole_has_part m us s) ∙ none in cc

  -- the opening double quote at this place
  Open : ℕ → List Lexeme → Type 0
  Open at = phrases.Token kind.DqOpen (codes "\"") at

  -- members without variables and expressions that make a text are a string spelled so
  plain_found : (at : ℕ) (ms : List Expr) (y : Expr) (ts mid rest : List Lexeme) → Begins (Open at) ts mid → Begins (Pieces (ms, false) then Close) mid rest → plain_of at ms ≡ Some y → Begins (StringOf E y) ts rest
  unfolding Pieces Close Open
  plain_found at [] y ts mid rest a b h =
      let same : record { at = at; form = form.Str [] } ≡ y = cc in
      let text : Begins (PlainOf [] then Close) mid rest = (let p = parts b in joins (maps (λ us s. grammar.PlainOf.empty refl s.0) p.1) p.2) in
      subst (λ (y : Expr). Begins (StringOf E y) ts rest) same (maps (λ us s. grammar.plain [] s refl) (joins a text))
  plain_found at (m ∷ []) y ts mid rest a b h =
      let same : record { at = at; form = m.form } ≡ y = cc in
      let p = parts b in
      let s = p.1.spelled.0 in
      let us_is : p.1.front ≡ s.front = s.whole ∙ ap (λ r. s.front ++ r) s.second ∙ append-nil s.front in
      let one = alone m s.front s.first (sym (ap has_part us_is) ∙ p.1.spelled.1) in
      let text : Begins (PlainOf one.0) mid p.0 = record { front = s.front; spelled = one.2; whole = p.1.whole ∙ ap (λ r. r ++ p.0) us_is } in
      subst (λ (y : Expr). Begins (StringOf E y) ts rest) same (maps (λ us s. grammar.plain one.0 s one.1) (joins a (joins text p.2)))
  plain_found at (m ∷ n ∷ ms) y ts mid rest a b h = cc

  -- members that make a text are a string spelled so
  joined_found : (at : ℕ) (ms : List Expr) (v : Bool) (y : Expr) (ts mid rest : List Lexeme) → Begins (Open at) ts mid → Begins (Pieces (ms, v) then Close) mid rest → joined at ms v ≡ Some y → Begins (StringOf E y) ts rest
  unfolding Pieces Close Open
  joined_found at ms true y ts mid rest a b h =
      let same : record { at = at; form = form.Join ms } ≡ y = cc in
      subst (λ (y : Expr). Begins (StringOf E y) ts rest) same (maps (λ us s. grammar.joined ms s refl) (joins a b))
  joined_found at ms false y ts mid rest a b h = plain_found at ms y ts mid rest a b h

  -- what is read as a text in double quotes is a string spelled so
  pub double_found : Finds (double_with e) (StringOf E)
  unfolding double_with quoted_with Open
  double_found ts x h =
      let o = bind_some (mark kind.DqOpen (codes "\"") ts) (λ o. quoted_with e o.0 o.1) x h in
      let a = bind_some (members e (length o.0.1 + 1) o.0.1) (λ ms. joined o.0.0 ms.0.0 ms.0.1 >>= λ y. Some (y, ms.1)) x o.2 in
      let b = bind_some (joined o.0.0 a.0.0.0 a.0.0.1) (λ y. Some (y, a.0.1)) x a.2 in
      let same : ◌≡◌ {A = Expr × List Lexeme} (b.0, a.0.1) x = cc in
      subst (λ (y : Expr × List Lexeme). Begins (StringOf E y.0) ts y.1) same
      (joined_found o.0.0 a.0.0.0 a.0.0.1 b.0 ts o.0.1 a.0.1 (marked_at kind.DqOpen (codes "\"") ts o.0 o.1) (members_found (length o.0.1 + 1) o.0.1 a.0 a.1) b.1)

  -- ---- operands

  -- what is read by its kind is a string spelled so
  string_kind : (k : Kind) (t : Lexeme) (ts : List Lexeme) (x : Expr × List Lexeme) → t.kind ≡ k → string_by e k t ts (t ∷ ts) ≡ Some x → Begins (StringOf E x.0) (t ∷ ts) x.1
  string_kind kind.DqOpen t ts x is h = double_found (t ∷ ts) x h
  string_kind kind.Sq t ts x is h =
      let a = bind_some (atom_of t) (λ x. Some (x, ts)) x h in
      let b = bind_some (atom t.kind t.text) (λ f. Some record { at = t.at; form = f }) a.0 a.1 in
      let one : record { at = t.at; form = b.0 } ≡ a.0 = cc in
      let same : ◌≡◌ {A = Expr × List Lexeme} (record { at = t.at; form = b.0 }, ts) x = cc in
      subst (λ (y : Expr × List Lexeme). Begins (StringOf E y.0) (t ∷ ts) y.1) same (record { front = t ∷ []; spelled = sq_string E t b.0 is (sym (ap (λ (k : Kind). atom k t.text) is) ∙ b.1); whole = refl })
  string_kind kind.Word t ts x is h = cc
  string_kind kind.Ref t ts x is h = cc
  string_kind kind.Var t ts x is h = cc
  string_kind kind.Int t ts x is h = cc
  string_kind kind.Float t ts x is h = cc
  string_kind kind.DqText t ts x is h = cc
  string_kind kind.DqVar t ts x is h = cc
  string_kind kind.Hole t ts x is h = cc
  string_kind kind.HoleEnd t ts x is h = cc
  string_kind kind.DqClose t ts x is h = cc
  string_kind kind.Tight t ts x is h = cc
  string_kind kind.Loose t ts x is h = cc
  string_kind kind.Keyword t ts x is h = cc
  string_kind kind.Sign t ts x is h = cc
  string_kind kind.LeftOut t ts x is h = cc

  -- what is read as a string is spelled so
  pub string_found : Finds (string_with e) (StringOf E)
  string_found [] x h = cc
  string_found (t ∷ ts) x h = string_kind t.kind t ts x refl h

  -- what is read by its kind is an operand spelled so
  primary_kind : (k : Kind) (t : Lexeme) (ts : List Lexeme) (x : Expr × List Lexeme) → primary_by e k t ts (t ∷ ts) ≡ Some x → Begins (PrimaryOf E x.0) (t ∷ ts) x.1
  primary_kind kind.DqOpen t ts x h = maps (λ us s. grammar.string s) (double_found (t ∷ ts) x h)
  primary_kind kind.Sign t ts x h = opened_found e E finds (t ∷ ts) (mark kind.Sign (codes "(") (t ∷ ts)) x refl h
  primary_kind kind.Loose t ts x h = list_found e E finds (t ∷ ts) x h
  primary_kind kind.Ref t ts x h = maps (λ us s. grammar.reference s) (reference_found e E finds (t ∷ ts) x h)
  primary_kind kind.Word t ts x h = atom_found E t ts x h
  primary_kind kind.Var t ts x h = atom_found E t ts x h
  primary_kind kind.Int t ts x h = atom_found E t ts x h
  primary_kind kind.Float t ts x h = atom_found E t ts x h
  primary_kind kind.Sq t ts x h = atom_found E t ts x h
  primary_kind kind.DqText t ts x h = atom_found E t ts x h
  primary_kind kind.DqVar t ts x h = atom_found E t ts x h
  primary_kind kind.Hole t ts x h = atom_found E t ts x h
  primary_kind kind.HoleEnd t ts x h = atom_found E t ts x h
  primary_kind kind.DqClose t ts x h = atom_found E t ts x h
  primary_kind kind.Tight t ts x h = atom_found E t ts x h
  primary_kind kind.Keyword t ts x h = atom_found E t ts x h
  primary_kind kind.LeftOut t ts x h = atom_found E t ts x h

  -- what is read as an operand is spelled so
  pub primary_found : Finds (primary_with e) (PrimaryOf E)
  primary_found [] x h = cc
  primary_found (t ∷ ts) x h = primary_kind t.kind t ts x h
