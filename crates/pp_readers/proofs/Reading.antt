-- What is spelled is read: tokens, chains of operators, and lists.
use Rattle.std.proofs.Common.{◌≡◌, ◌≢◌, ℕ, zero, suc, ◌+◌, ◌<◌, ◌≤◌, Bool, true, false, cond, List, [], ◌∷◌, ◌++◌, length, Option, Some, None, refl, sym, ap, subst, ◌∙◌, append_assoc, length-append, arith, eq-eqb}
use Rattle.std.specs.Prelude.{codes}
use Rattle.std.proofs.lemmas.Bool.{ne_eqb}
use Rattle.std.proofs.lemmas.Slice.Eq.{bytes_eq-Decides}
use Rattle.pp_syntax.specs.declared.token.Kind.{Kind}
use Rattle.pp_syntax.specs.declared.token.Kind.TheVariants as kind
use Rattle.pp_syntax.specs.declared.tree.Expr.{Expr}
use Rattle.pp_syntax.specs.declared.tree.Form.{Form}
use Rattle.pp_syntax.specs.declared.tree.Form.TheVariants as form
use Rattle.pp_syntax.specs.declared.tree.Op.{Op}
use Rattle.pp_syntax.specs.declared.tree.Op.TheVariants as op
use Rattle.pp_syntax.specs.Tokens.{Lexeme}
use Rattle.pp_syntax.specs.Phrases.{place_of}
use Rattle.pp_syntax.specs.Derivation.{level_of, Infix, Prefixed, Operations, Prefixes, ChainOf}
use Rattle.pp_syntax.specs.Derivation as grammar
use Rattle.pp_readers.specs.Marks.{Found, first_at, operator_of, at_level, infix_at, prefix_at, is_suffix, begins_suffix, reach, reach_of}
use Rattle.rh_base.specs.Reading.{◌>>=◌}
use Rattle.pp_readers.specs.Parsed.{NumbersFit}
use Rattle.pp_readers.specs.Expressions.{with_first, operations, operations_or_end, chain_of, chain_with, prefixes}
use Rattle.pp_readers.proofs.Steps.{prefix_goes_on, prefix_ends}
use Rattle.pp_readers.proofs.Solid.{Begun, begun_some}

-- each number fits
abbrev pub Fit : List Lexeme → Type 0
Fit us = NumbersFit us

-- the numbers of the front of two parts fit
pub fit_front : (a b : List Lexeme) → Fit (a ++ b) → Fit a
fit_front [] b f = tt
fit_front (t ∷ a) b f = (f.0, fit_front a b f.1)

-- and those of the back
pub fit_back : (a b : List Lexeme) → Fit (a ++ b) → Fit b
fit_back [] b f = f
fit_back (t ∷ a) b f = fit_back a b f.1

-- the same where the tokens are two parts
pub fits_first : {us : List Lexeme} (a b : List Lexeme) → us ≡ a ++ b → Fit us → Fit a
fits_first a b e f = fit_front a b (subst Fit e f)

-- and of the second
pub fits_second : {us : List Lexeme} (a b : List Lexeme) → us ≡ a ++ b → Fit us → Fit b
fits_second a b e f = fit_back a b (subst Fit e f)

-- what this rule spells is read, before anything that binds less tightly than this
abbrev pub Reads : {X : Type 0} → ℕ → (List Lexeme → Found X) → (X → List Lexeme → Type 0) → Type 0
Reads {X} k f A = (y : X) (us rest : List Lexeme) → A y us → Fit us → reach rest ≤ k → f (us ++ rest) ≡ Some (y, rest)

-- an expression is made of its place and its form
pub made : (y : Expr) (at : ℕ) (f : Form) → y.at ≡ at → y.form ≡ f → ◌≡◌ {A = Expr} (record { at = at; form = f }) y
made y at f p q = sym (ap (λ (a : ℕ). record { at = a; form = y.form }) p ∙ ap (λ (g : Form). record { at = at; form = g }) q)

-- with others behind them, tokens begin where they do
pub first_place : (us rest : List Lexeme) → us ≢ [] → first_at (us ++ rest) ≡ place_of us
first_place [] rest n = absurd (n refl)
first_place (t ∷ us) rest n = refl

-- ---- operators

-- an operator of a level is read there
pub infix_reads : (level : ℕ) (o : Op) (us rest : List Lexeme) → level_of o ≡ level → Infix o us → infix_at level (us ++ rest) ≡ Some (o, rest)
infix_reads level op.Or us rest e h = ap (λ r. infix_at level (r ++ rest)) h.1 ∙ ap (λ v. cond v (Some (op.Or, rest)) None) (eq-eqb (level_of op.Or) level e)
infix_reads level op.And us rest e h = ap (λ r. infix_at level (r ++ rest)) h.1 ∙ ap (λ v. cond v (Some (op.And, rest)) None) (eq-eqb (level_of op.And) level e)
infix_reads level op.Less us rest e h = ap (λ r. infix_at level (r ++ rest)) h.1 ∙ ap (λ v. cond v (Some (op.Less, rest)) None) (eq-eqb (level_of op.Less) level e)
infix_reads level op.Greater us rest e h = ap (λ r. infix_at level (r ++ rest)) h.1 ∙ ap (λ v. cond v (Some (op.Greater, rest)) None) (eq-eqb (level_of op.Greater) level e)
infix_reads level op.AtMost us rest e h = ap (λ r. infix_at level (r ++ rest)) h.1 ∙ ap (λ v. cond v (Some (op.AtMost, rest)) None) (eq-eqb (level_of op.AtMost) level e)
infix_reads level op.AtLeast us rest e h = ap (λ r. infix_at level (r ++ rest)) h.1 ∙ ap (λ v. cond v (Some (op.AtLeast, rest)) None) (eq-eqb (level_of op.AtLeast) level e)
infix_reads level op.Same us rest e h = ap (λ r. infix_at level (r ++ rest)) h.1 ∙ ap (λ v. cond v (Some (op.Same, rest)) None) (eq-eqb (level_of op.Same) level e)
infix_reads level op.NotSame us rest e h = ap (λ r. infix_at level (r ++ rest)) h.1 ∙ ap (λ v. cond v (Some (op.NotSame, rest)) None) (eq-eqb (level_of op.NotSame) level e)
infix_reads level op.Plus us rest e h = ap (λ r. infix_at level (r ++ rest)) h.1 ∙ ap (λ v. cond v (Some (op.Plus, rest)) None) (eq-eqb (level_of op.Plus) level e)
infix_reads level op.Minus us rest e h = ap (λ r. infix_at level (r ++ rest)) h.1 ∙ ap (λ v. cond v (Some (op.Minus, rest)) None) (eq-eqb (level_of op.Minus) level e)
infix_reads level op.Times us rest e h = ap (λ r. infix_at level (r ++ rest)) h.1 ∙ ap (λ v. cond v (Some (op.Times, rest)) None) (eq-eqb (level_of op.Times) level e)
infix_reads level op.In us rest e h = ap (λ r. infix_at level (r ++ rest)) h.1 ∙ ap (λ v. cond v (Some (op.In, rest)) None) (eq-eqb (level_of op.In) level e)
infix_reads level op.Not us rest e h = absurd h

-- an operator takes what stands in front of it as tightly as its level says
infix_reach : (o : Op) (us rest : List Lexeme) → Infix o us → reach (us ++ rest) ≡ level_of o + 1
infix_reach op.Or us rest h = ap (λ r. reach (r ++ rest)) h.1
infix_reach op.And us rest h = ap (λ r. reach (r ++ rest)) h.1
infix_reach op.Less us rest h = ap (λ r. reach (r ++ rest)) h.1
infix_reach op.Greater us rest h = ap (λ r. reach (r ++ rest)) h.1
infix_reach op.AtMost us rest h = ap (λ r. reach (r ++ rest)) h.1
infix_reach op.AtLeast us rest h = ap (λ r. reach (r ++ rest)) h.1
infix_reach op.Same us rest h = ap (λ r. reach (r ++ rest)) h.1
infix_reach op.NotSame us rest h = ap (λ r. reach (r ++ rest)) h.1
infix_reach op.Plus us rest h = ap (λ r. reach (r ++ rest)) h.1
infix_reach op.Minus us rest h = ap (λ r. reach (r ++ rest)) h.1
infix_reach op.Times us rest h = ap (λ r. reach (r ++ rest)) h.1
infix_reach op.In us rest h = ap (λ r. reach (r ++ rest)) h.1
infix_reach op.Not us rest h = absurd h

-- an operator is one token
infix_one : (o : Op) (us : List Lexeme) → Infix o us → length us ≡ 1
infix_one op.Or us h = ap length h.1
infix_one op.And us h = ap length h.1
infix_one op.Less us h = ap length h.1
infix_one op.Greater us h = ap length h.1
infix_one op.AtMost us h = ap length h.1
infix_one op.AtLeast us h = ap length h.1
infix_one op.Same us h = ap length h.1
infix_one op.NotSame us h = ap length h.1
infix_one op.Plus us h = ap length h.1
infix_one op.Minus us h = ap length h.1
infix_one op.Times us h = ap length h.1
infix_one op.In us h = ap length h.1
infix_one op.Not us h = absurd h

-- a suffix begins with no operator
suffix_no_operator : (k : Kind) (s : List ℕ) → is_suffix k s ≡ true → operator_of k s ≡ None
suffix_no_operator kind.Sign s h = ap (operator_of kind.Sign) ((bytes_eq-Decides s (codes "?")).0 h)
suffix_no_operator kind.Keyword s h = cc
suffix_no_operator kind.Word s h = refl
suffix_no_operator kind.Ref s h = refl
suffix_no_operator kind.Var s h = refl
suffix_no_operator kind.Int s h = refl
suffix_no_operator kind.Float s h = refl
suffix_no_operator kind.Sq s h = refl
suffix_no_operator kind.DqOpen s h = refl
suffix_no_operator kind.DqText s h = refl
suffix_no_operator kind.DqVar s h = refl
suffix_no_operator kind.Hole s h = refl
suffix_no_operator kind.HoleEnd s h = refl
suffix_no_operator kind.DqClose s h = refl
suffix_no_operator kind.Tight s h = refl
suffix_no_operator kind.Loose s h = refl
suffix_no_operator kind.LeftOut s h = refl

-- where nothing binds tighter than a level, no operator of it is found
pub infix_none : (level : ℕ) (ts : List Lexeme) → reach ts ≤ level → infix_at level ts ≡ None
infix_none level [] h = refl
infix_none level (t ∷ ts) h = by_suffix (is_suffix t.kind t.text) refl h
  where
    by_operator : (r : Option Op) → reach_of r ≤ level → at_level level r ts ≡ None
    by_operator None l = refl
    by_operator (Some o) l = ap (λ v. cond v (Some (o, ts)) None) (ne_eqb (level_of o) level (λ e. omega arith))

    by_suffix : (v : Bool) → is_suffix t.kind t.text ≡ v → cond v 8 (reach_of (operator_of t.kind t.text)) ≤ level → infix_at level (t ∷ ts) ≡ None
    by_suffix true p l = ap (λ r. at_level level r ts) (suffix_no_operator t.kind t.text p)
    by_suffix false p l = by_operator (operator_of t.kind t.text) l

-- where nothing but operators stands first, no index or selection begins
pub suffix_none : (ts : List Lexeme) → reach ts ≤ 7 → begins_suffix ts ≡ false
suffix_none [] h = refl
suffix_none (t ∷ ts) h = by_suffix (is_suffix t.kind t.text) h
  where
    by_suffix : (v : Bool) → cond v 8 (reach_of (operator_of t.kind t.text)) ≤ 7 → v ≡ false
    by_suffix true l = absurd (omega arith)
    by_suffix false l = refl

module _ (level : ℕ) (next : List Lexeme → Found Expr) (A : Expr → List Lexeme → Type 0) (reads : Reads (level + 1) next A) (begun : (y : Expr) (us : List Lexeme) → A y us → Begun us) where
  -- before operators of a level an operand of it can be read
  operations_reach : (more : List (Op × Expr)) (us rest : List Lexeme) → Operations level A more us → reach rest ≤ level → reach (us ++ rest) ≤ level + 1
  operations_reach [] us rest h l = subst (λ r. reach (r ++ rest) ≤ level + 1) (sym h) (omega arith)
  operations_reach (o ∷ more) us rest h l =
      let sign = h.first.1.first in
      let e : us ++ rest ≡ h.first.1.front ++ (h.first.1.back ++ (h.back ++ rest)) =
      ap (λ r. r ++ rest) (h.whole ∙ ap (λ r. r ++ h.back) h.first.1.whole ∙ append_assoc h.first.1.front h.first.1.back h.back) ∙ append_assoc h.first.1.front (h.first.1.back ++ h.back) rest
      ∙ ap (λ r. h.first.1.front ++ r) (append_assoc h.first.1.back h.back rest) in
      let r : reach (us ++ rest) ≡ level_of o.0 + 1 = ap reach e ∙ infix_reach o.0 h.first.1.front (h.first.1.back ++ (h.back ++ rest)) sign in
      omega (arith, r, h.first.0)

  -- operators of a level with their right operands are read
  operations_read : (more : List (Op × Expr)) (n : ℕ) (us rest : List Lexeme) → Operations level A more us → Fit us → reach rest ≤ level → length us < n → operations level next n (us ++ rest) ≡ Some (more, rest)
  operations_read more zero us rest h f l t = absurd (omega arith)
  operations_read [] (suc n) us rest h f l t = ap (λ r. operations level next (suc n) (r ++ rest)) h ∙ ap (λ r. operations_or_end next (operations level next n) r rest) (infix_none level rest l)
  operations_read (o ∷ more) (suc n) us rest h f l t =
      let s = h.first.1 in
      let e : us ++ rest ≡ s.front ++ (s.back ++ (h.back ++ rest)) =
      ap (λ r. r ++ rest) (h.whole ∙ ap (λ r. r ++ h.back) s.whole ∙ append_assoc s.front s.back h.back) ∙ append_assoc s.front (s.back ++ h.back) rest ∙ ap (λ r. s.front ++ r) (append_assoc s.back h.back rest) in
      let ff = fits_first h.front h.back h.whole f in
      let shorter : length h.back < n = omega (arith, infix_one o.0 s.front s.first, ap length h.whole, length-append h.front h.back, ap length s.whole, length-append s.front s.back) in
      ap (operations level next (suc n)) e
      ∙ ap (λ r. operations_or_end next (operations level next n) r (s.front ++ (s.back ++ (h.back ++ rest)))) (infix_reads level o.0 s.front (s.back ++ (h.back ++ rest)) h.first.0 s.first)
      ∙ ap (λ r. r >>= λ x. with_first (o.0, x.0) (operations level next n x.1)) (reads o.1 s.back (h.back ++ rest) s.second (fits_second s.front s.back s.whole ff) (operations_reach more h.back rest h.second l))
      ∙ ap (with_first (o.0, o.1)) (operations_read more n h.back rest h.second (fits_second h.front h.back h.whole f) l shorter)

  -- a chain of a level is read, before anything that binds less tightly
  pub chain_read : Reads level (chain_with level next) (ChainOf level A)
  unfolding chain_with
  chain_read y us rest (grammar.ChainOf.operand a) f l =
      ap (λ r. r >>= λ first. operations level next (length first.1 + 1) first.1 >>= λ more. Some (chain_of (first_at (us ++ rest)) first.0 more.0, more.1)) (reads y us rest a f (omega arith))
      ∙ ap (λ r. r >>= λ more. Some (chain_of (first_at (us ++ rest)) y more.0, more.1)) (operations_read [] (length rest + 1) [] rest refl tt l (omega arith))
  chain_read y us rest (grammar.chain first o more is at s) f l =
      let e : us ++ rest ≡ s.front ++ (s.back ++ rest) = ap (λ r. r ++ rest) s.whole ∙ append_assoc s.front s.back rest in
      let k = λ (first : Expr × List Lexeme). operations level next (length first.1 + 1) first.1 >>= λ more. Some (chain_of (first_at (us ++ rest)) first.0 more.0, more.1) in
      let some : us ≢ [] = begun_some us (Rattle.pp_readers.proofs.Solid.begun_grows s.front s.back s.whole (begun first s.front s.first)) in
      ap (λ r. next r >>= k) e
      ∙ ap (λ r. r >>= k) (reads first s.front (s.back ++ rest) s.first (fits_first s.front s.back s.whole f) (operations_reach (o ∷ more) s.back rest s.second l))
      ∙ ap (λ r. r >>= λ more. Some (chain_of (first_at (us ++ rest)) first more.0, more.1))
      (operations_read (o ∷ more) (length (s.back ++ rest) + 1) s.back rest s.second (fits_second s.front s.back s.whole f) l (omega (arith, length-append s.back rest)))
      ∙ ap (λ z. Some (z, rest)) (made y (first_at (us ++ rest)) (form.Chain first (o ∷ more)) (at ∙ sym (first_place us rest some)) is)

-- ---- prefixes

-- a prefix is read
prefix_reads : (o : Op) (us rest : List Lexeme) → Prefixed o us → prefix_at (us ++ rest) ≡ Some (o, rest)
prefix_reads op.Not us rest h = ap (λ r. prefix_at (r ++ rest)) h.1
prefix_reads op.Minus us rest h = ap (λ r. prefix_at (r ++ rest)) h.1
prefix_reads op.Or us rest h = absurd h
prefix_reads op.And us rest h = absurd h
prefix_reads op.Less us rest h = absurd h
prefix_reads op.Greater us rest h = absurd h
prefix_reads op.AtMost us rest h = absurd h
prefix_reads op.AtLeast us rest h = absurd h
prefix_reads op.Same us rest h = absurd h
prefix_reads op.NotSame us rest h = absurd h
prefix_reads op.Plus us rest h = absurd h
prefix_reads op.Times us rest h = absurd h
prefix_reads op.In us rest h = absurd h

-- prefixes are read, before anything that is none
pub prefixes_read : (ops : List Op) (us rest : List Lexeme) → Prefixes ops us → prefix_at rest ≡ None → prefixes (us ++ rest) ≡ (ops, rest)
prefixes_read [] us rest h n = ap (λ r. prefixes (r ++ rest)) h ∙ prefix_ends rest n
prefixes_read (o ∷ more) us rest h n =
    let e : us ++ rest ≡ h.front ++ (h.back ++ rest) = ap (λ r. r ++ rest) h.whole ∙ append_assoc h.front h.back rest in
    ap prefixes e ∙ prefix_goes_on (h.front ++ (h.back ++ rest)) (h.back ++ rest) o (prefix_reads o h.front (h.back ++ rest) h.first)
    ∙ ap (λ (p : List Op × List Lexeme). (o ∷ p.0, p.1)) (prefixes_read more h.back rest h.second n)
