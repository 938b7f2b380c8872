-- What is spelled is read: texts in quotes, operands, and whole expressions.
use Rattle.std.proofs.Common.{◌≡◌, ◌⊎◌, inl, inr, ℕ, zero, suc, ◌+◌, ◌-◌, ◌<◌, ◌≤◌, ◌^◌, Bool, true, false, cond, List, [], ◌∷◌, ◌++◌, length, Some, None, refl, sym, ap, subst, ◌∙◌, append_assoc, length-append, arith}
use Rattle.std.specs.Prelude.{codes, pos}
use Rattle.std.specs.Option.{option_map}
use Rattle.std.proofs.lemmas.List.{append-nil}
use Rattle.pp_syntax.specs.declared.token.Kind.TheVariants as kind
use Rattle.pp_syntax.specs.declared.tree.Expr.{Expr}
use Rattle.pp_syntax.specs.declared.tree.Form.TheVariants as form
use Rattle.pp_syntax.specs.declared.tree.Op.{Op}
use Rattle.pp_syntax.specs.Tokens.{Lexeme, int_value}
use Rattle.pp_syntax.specs.TokenValues.{SqOf, DqOf, sq_value}
use Rattle.pp_syntax.specs.Phrases as phrases
use Rattle.pp_syntax.specs.Phrases.{◌then◌, Sign, place_of}
use Rattle.pp_syntax.specs.Derivation.{UnaryOf, PostfixOf, PrimaryOf, StringOf, PlainOf, MemberOf, Members, InnerOf, ReadAsVariable, has_part, kind_of_first, IsExprAt}
use Rattle.pp_syntax.specs.Derivation as grammar
use Rattle.pp_syntax.proofs.Values.{fits}
use Rattle.pp_readers.specs.Marks.{Found, first_at, mark, reach}
use Rattle.rh_base.specs.Reading.{◌>>=◌}
use Rattle.pp_readers.specs.Values.{behind_byte, before_quote, sq, dq}
use Rattle.pp_readers.specs.Expressions.{prefixes, prefixed, suffixes, postfix_with, unary_with, levels_with, expr_at, primary_with, string_with, double_with, quoted_with, members, member_with, with_member, end_or_member, joined, part_with, hole_with, inner_with, inner_of, begins_word, as_variable}
use Rattle.pp_readers.proofs.Escapes.{before_here}
use Rattle.pp_readers.proofs.Variables.{variable_found, Stays}
use Rattle.pp_readers.proofs.Operands.{part-append}
use Rattle.pp_readers.proofs.Solid.{Begun, lead, begun_some, postfix_lead, unary_begun, no_prefix_first, LevelOf, level_begun, expr_begun}
use Rattle.pp_readers.proofs.Reading.{Fit, fits_first, fits_second, Reads, made, first_place, chain_read, prefixes_read}
use Rattle.pp_readers.proofs.Listing.{Closes}
use Rattle.pp_readers.proofs.Spelled.{variable_is, begins_of, word_of, enclosed_read, reference_read, list_read, map_read, suffixes_read}

-- `)` closes a list
pub paren_closes : Closes (codes ")")
paren_closes = record { here = λ at rest. refl; no_comma = λ at rest. refl; quiet = λ at rest. refl }

-- a text in single quotes is read with its value
pub sq_read : (v s : List ℕ) → SqOf v s → sq s ≡ Some v
unfolding sq
sq_read v s h =
    ap (λ u. behind_byte 39 u >>= λ r. option_map sq_value (before_quote r)) h.1 ∙ ap (option_map sq_value) (before_here h.0) ∙ ap Some (sym h.2)

module _ (dq_read : (raw v : List ℕ) → DqOf v raw → dq raw ≡ Some v) (e : List Lexeme → Found Expr) (E : Expr → List Lexeme → Type 0) (reads : Reads 0 e E) (begun : (y : Expr) (us : List Lexeme) → E y us → Begun us) where
  -- what may stand within `${` and `}` is read
  inner_read : Reads 0 (inner_with e) (InnerOf E)
  unfolding inner_with
  inner_read y us rest (grammar.InnerOf.variable x w h r) f l =
      ap (λ r. r >>= λ x. Some (inner_of (begins_word (us ++ rest)) x.0, x.1)) (reads x us rest h f l)
      ∙ ap (λ v. Some (inner_of v x, rest)) (begins_of us rest w) ∙ ap (λ z. Some (z, rest)) (variable_is r)
  inner_read y us rest (grammar.InnerOf.other h n) f l =
      ap (λ r. r >>= λ x. Some (inner_of (begins_word (us ++ rest)) x.0, x.1)) (reads y us rest h f l) ∙ ap (λ z. Some (z, rest)) (by_word (begins_word (us ++ rest)) refl)
    where
      stays : kind_of_first us ≡ Some kind.Word → ReadAsVariable y (as_variable y) ⊎ Stays y → as_variable y ≡ y
      stays w (inl r) = absurd (n w (as_variable y) r)
      stays w (inr s) = s.1

      by_word : (v : Bool) → begins_word (us ++ rest) ≡ v → inner_of v y ≡ y
      by_word false p = refl
      by_word true p = stays (word_of us rest (begun_some us (begun y us h)) p) (variable_found y.at y.form)

  -- `${`, what stands within, and `}` are read
  part_read : (y : Expr) (us rest : List Lexeme) → (phrases.Some kind.Hole (codes "${") then (InnerOf E y then phrases.Some kind.HoleEnd (codes "}"))) us → Fit us → part_with e (us ++ rest) ≡ Some (y, rest)
  unfolding part_with hole_with
  part_read y us rest s f =
      let b = s.second in
      let w : us ++ rest ≡ record { kind = kind.Hole; text = codes "${"; at = s.first.0 } ∷ (b.front ++ (b.back ++ rest)) =
      ap (λ u. u ++ rest) (s.whole ∙ ap (λ u. u ++ s.back) s.first.1 ∙ ap (λ u. record { kind = kind.Hole; text = codes "${"; at = s.first.0 } ∷ u) b.whole)
      ∙ ap (λ u. record { kind = kind.Hole; text = codes "${"; at = s.first.0 } ∷ u) (append_assoc b.front b.back rest) in
      let q : reach (b.back ++ rest) ≤ 0 = omega (arith, ap (λ r. reach (r ++ rest)) b.second.1) in
      ap (part_with e) w
      ∙ ap (λ r. r >>= λ x. mark kind.HoleEnd (codes "}") x.1 >>= λ r. Some (x.0, r.1)) (inner_read y b.front (b.back ++ rest) b.first (fits_first b.front b.back b.whole (fits_second s.front s.back s.whole f)) q)
      ∙ ap (λ r. mark kind.HoleEnd (codes "}") (r ++ rest) >>= λ r. Some (y, r.1)) b.second.1

  -- a member of a text in double quotes is read
  member_read : (y : Expr) (us rest : List Lexeme) → MemberOf E y us → Fit us → member_with e (us ++ rest) ≡ Some ((y, has_part us), rest)
  member_read y us rest (grammar.MemberOf.text value raw t d is) f =
      ap (λ r. member_with e (r ++ rest)) t
      ∙ ap (λ r. r >>= λ v. Some ((record { at = y.at; form = form.Str v }, false), rest)) (dq_read raw value d)
      ∙ ap (λ z. Some ((z, false), rest)) (made y y.at (form.Str value) refl is) ∙ ap (λ v. Some ((y, v), rest)) (sym (ap has_part t))
  member_read y us rest (grammar.MemberOf.variable name t is) f =
      ap (λ r. member_with e (r ++ rest)) t ∙ ap (λ z. Some ((z, true), rest)) (made y y.at (form.Var name) refl is) ∙ ap (λ v. Some ((y, v), rest)) (sym (ap has_part t))
  member_read y us rest (grammar.hole s) f =
      let w : us ++ rest ≡ record { kind = kind.Hole; text = codes "${"; at = s.first.0 } ∷ (s.back ++ rest) = ap (λ u. u ++ rest) (s.whole ∙ ap (λ u. u ++ s.back) s.first.1) in
      ap (member_with e) w ∙ ap (λ r. part_with e r >>= λ x. Some ((x.0, true), x.1)) (sym w) ∙ ap (λ r. r >>= λ x. Some ((x.0, true), x.1)) (part_read y us rest s f)
      ∙ ap (λ v. Some ((y, v), rest)) (sym (ap has_part (s.whole ∙ ap (λ u. u ++ s.back) s.first.1)))

  -- no member begins as the closing quote, and none is empty
  member_apart : (y : Expr) (us rest : List Lexeme) → MemberOf E y us → (mark kind.DqClose (codes "\"") (us ++ rest) ≡ None) × (0 < length us)
  member_apart y us rest (grammar.MemberOf.text value raw t d is) = (ap (λ r. mark kind.DqClose (codes "\"") (r ++ rest)) t, omega (arith, ap length t))
  member_apart y us rest (grammar.MemberOf.variable name t is) = (ap (λ r. mark kind.DqClose (codes "\"") (r ++ rest)) t, omega (arith, ap length t))
  member_apart y us rest (grammar.hole s) =
      (ap (λ r. mark kind.DqClose (codes "\"") (r ++ rest)) (s.whole ∙ ap (λ u. u ++ s.back) s.first.1), omega (arith, ap length (s.whole ∙ ap (λ u. u ++ s.back) s.first.1)))

  -- members to the closing quote are read, and whether a variable or an expression is among them
  members_read : (ms : List Expr) (n : ℕ) (us ws rest : List Lexeme) → Members E ms us → phrases.Some kind.DqClose (codes "\"") ws → Fit us → length us < n → members e n (us ++ (ws ++ rest)) ≡ Some ((ms, has_part us), rest)
  members_read ms zero us ws rest h c f l = absurd (omega arith)
  members_read [] (suc n) us ws rest h c f l =
      ap (λ r. members e (suc n) (r ++ (ws ++ rest))) h ∙ ap (λ r. members e (suc n) (r ++ rest)) c.1 ∙ ap (λ v. Some (([], v), rest)) (sym (ap has_part h))
  members_read (m ∷ ms) (suc n) us ws rest h c f l =
      let t = ws ++ rest in
      let w : us ++ t ≡ h.front ++ (h.back ++ t) = ap (λ r. r ++ t) h.whole ∙ append_assoc h.front h.back t in
      let a = member_apart m h.front (h.back ++ t) h.first in
      ap (members e (suc n)) w
      ∙ ap (λ r. end_or_member e (members e n) r (h.front ++ (h.back ++ t))) a.0
      ∙ ap (λ r. r >>= λ m. with_member m.0 (members e n m.1)) (member_read m h.front (h.back ++ t) h.first (fits_first h.front h.back h.whole f))
      ∙ ap (with_member (m, has_part h.front)) (members_read ms n h.back ws rest h.second c (fits_second h.front h.back h.whole f) (omega (arith, a.1, ap length h.whole, length-append h.front h.back)))
      ∙ ap (λ v. Some ((m ∷ ms, v), rest)) (sym (ap has_part h.whole ∙ part-append h.front h.back))

  -- a text in double quotes whose members make it is read
  quoted_read : (y : Expr) (ms : List Expr) (us vs ws rest : List Lexeme) → phrases.Token kind.DqOpen (codes "\"") y.at us → Members E ms vs → phrases.Some kind.DqClose (codes "\"") ws → Fit vs → joined y.at ms (has_part vs) ≡ Some y
      → double_with e (us ++ (vs ++ (ws ++ rest))) ≡ Some (y, rest)
  unfolding double_with quoted_with
  quoted_read y ms us vs ws rest o h c f j =
      ap (λ r. double_with e (r ++ (vs ++ (ws ++ rest)))) o
      ∙ ap (λ r. r >>= λ ms. joined y.at ms.0.0 ms.0.1 >>= λ x. Some (x, ms.1)) (members_read ms (length (vs ++ (ws ++ rest)) + 1) vs ws rest h c f (omega (arith, length-append vs (ws ++ rest))))
      ∙ ap (λ r. r >>= λ x. Some (x, rest)) j

  -- the rest stands behind the last of three parts
  three : (a b c rest us vs : List Lexeme) → us ≡ a ++ vs → vs ≡ b ++ c → us ++ rest ≡ a ++ (b ++ (c ++ rest))
  three a b c rest us vs p q = ap (λ r. r ++ rest) (p ∙ ap (λ r. a ++ r) q) ∙ append_assoc a (b ++ c) rest ∙ ap (λ r. a ++ r) (append_assoc b c rest)

  -- what is read as a text in double quotes is read as a string and as an operand
  doubled : (y : Expr) (us rest more : List Lexeme) → us ++ rest ≡ record { kind = kind.DqOpen; text = codes "\""; at = y.at } ∷ more → double_with e (us ++ rest) ≡ Some (y, rest)
      → (string_with e (us ++ rest) ≡ Some (y, rest)) × (primary_with e (us ++ rest) ≡ Some (y, rest))
  doubled y us rest more o d = (ap (string_with e) o ∙ ap (double_with e) (sym o) ∙ d, ap (primary_with e) o ∙ ap (double_with e) (sym o) ∙ d)

  -- a text in double quotes without variables and expressions is read
  plain_read : (y : Expr) (v : List ℕ) (us vs ws rest : List Lexeme) → phrases.Token kind.DqOpen (codes "\"") y.at us → PlainOf v vs → phrases.Some kind.DqClose (codes "\"") ws → Fit vs → y.form ≡ form.Str v → double_with e (us ++ (vs ++ (ws ++ rest))) ≡ Some (y, rest)
  plain_read y v us vs ws rest o (grammar.PlainOf.empty p q) c f is =
      quoted_read y [] us vs ws rest o q c f (ap (λ t. joined y.at [] t) (ap has_part q) ∙ ap Some (made y y.at (form.Str []) refl (is ∙ ap form.Str p)))
  plain_read y v us vs ws rest o (grammar.PlainOf.text raw at t d) c f is =
      let m : Expr = record { at = at; form = form.Str v } in
      let one : Members E (m ∷ []) vs = record { front = vs; back = []; first = grammar.MemberOf.text v raw t d refl; second = refl; whole = sym (append-nil vs) } in
      quoted_read y (m ∷ []) us vs ws rest o one c f (ap (λ t. joined y.at (m ∷ []) t) (ap has_part t) ∙ ap Some (made y y.at (form.Str v) refl is))

  -- a string is read as a string and as an operand
  strings : (y : Expr) (us rest : List Lexeme) → StringOf E y us → Fit us → (string_with e (us ++ rest) ≡ Some (y, rest)) × (primary_with e (us ++ rest) ≡ Some (y, rest))
  strings y us rest (grammar.single v raw t q is) f = (
    ap (λ r. string_with e (r ++ rest)) t ∙ ap (λ r. (option_map form.Str r >>= λ f. Some record { at = y.at; form = f }) >>= λ x. Some (x, rest)) (sq_read v raw q) ∙ ap (λ z. Some (z, rest)) (made y y.at (form.Str v) refl is),
    ap (λ r. primary_with e (r ++ rest)) t ∙ ap (λ r. (option_map form.Str r >>= λ f. Some record { at = y.at; form = f }) >>= λ x. Some (x, rest)) (sq_read v raw q) ∙ ap (λ z. Some (z, rest)) (made y y.at (form.Str v) refl is),
  )
  strings y us rest (grammar.plain v s is) f =
      let b = s.second in
      let fb = fits_first b.front b.back b.whole (fits_second s.front s.back s.whole f) in
      doubled y us rest (s.back ++ rest) (ap (λ r. r ++ rest) (s.whole ∙ ap (λ r. r ++ s.back) s.first))
      (ap (double_with e) (three s.front b.front b.back rest us s.back s.whole b.whole) ∙ plain_read y v s.front b.front b.back rest s.first b.first b.second fb is)
  strings y us rest (grammar.joined ms s is) f =
      let b = s.second in
      let fb = fits_first b.front b.back b.whole (fits_second s.front s.back s.whole f) in
      doubled y us rest (s.back ++ rest) (ap (λ r. r ++ rest) (s.whole ∙ ap (λ r. r ++ s.back) s.first))
      (ap (double_with e) (three s.front b.front b.back rest us s.back s.whole b.whole) ∙ quoted_read y ms s.front b.front b.back rest s.first b.first.0 b.second fb
      (ap (joined y.at ms) b.first.1 ∙ ap Some (made y y.at (form.Join ms) refl is)))

  -- a string is read
  pub string_read : (y : Expr) (us rest : List Lexeme) → StringOf E y us → Fit us → string_with e (us ++ rest) ≡ Some (y, rest)
  string_read y us rest s f = (strings y us rest s f).0

  -- ---- operands

  -- an operand is read
  primary_read : (y : Expr) (us rest : List Lexeme) → PrimaryOf E y us → Fit us → primary_with e (us ++ rest) ≡ Some (y, rest)
  primary_read y us rest (grammar.int raw t is) f =
      let small : int_value raw < 2 ^ 63 = (subst Fit t f).0 refl in
      ap (λ r. primary_with e (r ++ rest)) t
      ∙ ap (λ v. (cond v (Some (form.Int (pos (int_value raw)))) None >>= λ f. Some record { at = y.at; form = f }) >>= λ x. Some (x, rest)) (fits (int_value raw) small)
      ∙ ap (λ z. Some (z, rest)) (made y y.at (form.Int (pos (int_value raw))) refl is)
  primary_read y us rest (grammar.string s) f = (strings y us rest s f).1
  primary_read y us rest (grammar.PrimaryOf.word name t is) f = ap (λ r. primary_with e (r ++ rest)) t ∙ ap (λ z. Some (z, rest)) (made y y.at (form.Str name) refl is)
  primary_read y us rest (grammar.PrimaryOf.variable name t is) f = ap (λ r. primary_with e (r ++ rest)) t ∙ ap (λ z. Some (z, rest)) (made y y.at (form.Var name) refl is)
  primary_read y us rest (grammar.PrimaryOf.truth t is) f = ap (λ r. primary_with e (r ++ rest)) t ∙ ap (λ z. Some (z, rest)) (made y y.at (form.Bool true) refl is)
  primary_read y us rest (grammar.PrimaryOf.falsehood t is) f = ap (λ r. primary_with e (r ++ rest)) t ∙ ap (λ z. Some (z, rest)) (made y y.at (form.Bool false) refl is)
  primary_read y us rest (grammar.PrimaryOf.undefined t is) f = ap (λ r. primary_with e (r ++ rest)) t ∙ ap (λ z. Some (z, rest)) (made y y.at form.Undef refl is)
  primary_read y us rest (grammar.PrimaryOf.enclosed s) f =
      let w : us ++ rest ≡ record { kind = kind.Sign; text = codes "("; at = s.first.0 } ∷ (s.back ++ rest) = ap (λ u. u ++ rest) (s.whole ∙ ap (λ u. u ++ s.back) s.first.1) in
      ap (primary_with e) w ∙ enclosed_read dq_read e E reads begun (codes ")") paren_closes y s.back rest s.second (fits_second s.front s.back s.whole f)
  primary_read y us rest (grammar.PrimaryOf.list ms s is) f =
      let w : us ++ rest ≡ record { kind = kind.Loose; text = codes "["; at = y.at } ∷ (s.back ++ rest) = ap (λ u. u ++ rest) (s.whole ∙ ap (λ u. u ++ s.back) s.first) in
      ap (primary_with e) w ∙ ap (Rattle.pp_readers.specs.Expressions.list_with e) (sym w) ∙ list_read dq_read e E reads begun y ms us rest s is f
  primary_read y us rest (grammar.PrimaryOf.map ps s is) f =
      let w : us ++ rest ≡ record { kind = kind.Sign; text = codes "{"; at = y.at } ∷ (s.back ++ rest) = ap (λ u. u ++ rest) (s.whole ∙ ap (λ u. u ++ s.back) s.first) in
      ap (primary_with e) w ∙ ap (Rattle.pp_readers.specs.Expressions.map_with e) (sym w) ∙ map_read dq_read e E reads begun y ps us rest s is f
  primary_read y us rest (grammar.PrimaryOf.reference r) f =
      let w : us ++ rest ≡ record { kind = kind.Ref; text = r.name; at = y.at } ∷ (r.spelled.back ++ rest) = ap (λ u. u ++ rest) (r.spelled.whole ∙ ap (λ u. u ++ r.spelled.back) r.spelled.first) in
      ap (primary_with e) w ∙ ap (Rattle.pp_readers.specs.Expressions.reference_with e) (sym w) ∙ reference_read dq_read e E reads begun y us rest r f

  -- an operand with indexes and selections is read, before anything that is none of them
  pub postfix_read : Reads 7 (postfix_with e) (PostfixOf E)
  unfolding postfix_with
  postfix_read y us rest p f l =
      let w : us ++ rest ≡ p.front ++ (p.back ++ rest) = ap (λ r. r ++ rest) p.whole ∙ append_assoc p.front p.back rest in
      let some = begun_some us (lead (postfix_lead E y us p)) in
      ap (λ r. primary_with e r >>= λ x. suffixes e (first_at (us ++ rest)) (length x.1 + 1) x.0 x.1) w
      ∙ ap (λ r. r >>= λ x. suffixes e (first_at (us ++ rest)) (length x.1 + 1) x.0 x.1) (primary_read p.operand p.front (p.back ++ rest) p.primary (fits_first p.front p.back p.whole f))
      ∙ ap (λ at. suffixes e at (length (p.back ++ rest) + 1) p.operand (p.back ++ rest)) (first_place us rest some)
      ∙ suffixes_read dq_read e E reads begun (place_of us) (length (p.back ++ rest) + 1) p.operand y p.back rest p.suffixes (fits_second p.front p.back p.whole f) l (omega (arith, length-append p.back rest))

  -- so is one with prefixes before it
  unary_read : Reads 7 (unary_with e) (UnaryOf E)
  unfolding unary_with
  unary_read y us rest (grammar.UnaryOf.operand p) f l =
      let n : prefixes (us ++ rest) ≡ ([], us ++ rest) = prefixes_read [] [] (us ++ rest) refl (no_prefix_first us rest (postfix_lead E y us p)) in
      ap (λ (q : List Op × List Lexeme). postfix_with e q.1 >>= λ x. Some (prefixed (first_at (us ++ rest)) q.0 x.0, x.1)) n
      ∙ ap (λ r. r >>= λ x. Some (x.0, x.1)) (postfix_read y us rest p f l)
  unary_read y us rest (grammar.prefixed o more x is at s) f l =
      let w : us ++ rest ≡ s.front ++ (s.back ++ rest) = ap (λ r. r ++ rest) s.whole ∙ append_assoc s.front s.back rest in
      let n : prefixes (us ++ rest) ≡ (o ∷ more, s.back ++ rest) = ap prefixes w ∙ prefixes_read (o ∷ more) s.front (s.back ++ rest) s.first (no_prefix_first s.back rest (postfix_lead E x s.back s.second)) in
      let some = begun_some us (unary_begun E y us (grammar.prefixed o more x is at s)) in
      ap (λ (q : List Op × List Lexeme). postfix_with e q.1 >>= λ x. Some (prefixed (first_at (us ++ rest)) q.0 x.0, x.1)) n
      ∙ ap (λ r. r >>= λ x. Some (prefixed (first_at (us ++ rest)) (o ∷ more) x.0, x.1)) (postfix_read x s.back rest s.second (fits_second s.front s.back s.whole f) l)
      ∙ ap (λ z. Some (z, rest)) (made y (first_at (us ++ rest)) (form.Prefix (o ∷ more) x) (at ∙ sym (first_place us rest some)) is)

  -- the rule of each level is read, before anything that binds less tightly
  levels_read : (n : ℕ) → n ≤ 7 → Reads (7 - n) (levels_with e n) (LevelOf E n)
  levels_read zero h y us rest s f l = unary_read y us rest s f l
  levels_read (suc n) h y us rest s f l =
      let k : 7 - n ≡ (6 - n) + 1 = omega arith in
      let below : Reads ((6 - n) + 1) (levels_with e n) (LevelOf E n) = subst (λ k. Reads k (levels_with e n) (LevelOf E n)) k (levels_read n (omega arith)) in
      chain_read (6 - n) (levels_with e n) (LevelOf E n) below (level_begun E n) y us rest s f (omega arith)

-- an expression is read, before anything that doesn't go on with it
pub expr_read : ((raw v : List ℕ) → DqOf v raw → dq raw ≡ Some v) → (depth : ℕ) → Reads 0 (expr_at depth) (IsExprAt depth)
expr_read dq_read zero y us rest h f l = absurd h
expr_read dq_read (suc depth) y us rest h f l = levels_read dq_read (expr_at depth) (IsExprAt depth) (expr_read dq_read depth) (expr_begun depth) 7 (omega arith) y us rest h f l
