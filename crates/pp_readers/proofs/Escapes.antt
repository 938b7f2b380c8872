-- The value of a text in single quotes, as the code takes it.
use Rattle.std.proofs.Common.{◌≡◌, ◌≢◌, ◌⊎◌, inl, inr, ℕ, suc, ◌<◌, ◌==◌, ◌||◌, true, false, cond, List, [], ◌∷◌, ◌++◌, length, refl, sym, ap, ◌∙◌, arith, append_assoc, length-append, Option, Some, None, Bor}
use Rattle.std.specs.Option.{MatchOption, option_map}
use Rattle.std.proofs.Common.{eq-eqb}
use Rattle.std.proofs.lemmas.Bool.{eqb-true}
use Rattle.std.proofs.lemmas.Str.Pattern.{split_parts, IsSplitOnceResult}
use Rattle.std.proofs.lemmas.List.{append-nil}
use Rattle.std.proofs.lemmas.Bool.{ne_eqb}
use Rattle.pp_syntax.specs.TokenValues.{sq_value, sq_escaped}
use Rattle.pp_readers.specs.Values.{HasNoBackslash, behind_byte, before_quote}

-- what has no backslash stands for itself
pub value-front : (a r : List ℕ) → HasNoBackslash a → sq_value (a ++ r) ≡ a ++ sq_value r
value-front [] r none = refl
value-front (b ∷ a) r none =
    ap (λ v. cond v (sq_escaped (a ++ r)) (b ∷ sq_value (a ++ r))) (ne_eqb b 92 (none 0 (omega arith)))
    ∙ ap (λ t. b ∷ t) (value-front a r (λ i h. none (suc i) (omega arith)))

-- at the first backslash the value is the front, and what the escape makes
pub at_backslash : (t a r : List ℕ) → t ≡ a ++ 92 ∷ r → HasNoBackslash a → sq_value t ≡ a ++ sq_escaped r
at_backslash t a r e none = ap sq_value e ∙ value-front a (92 ∷ r) none

-- without a backslash a text is its own value
pub at_end : (t : List ℕ) → HasNoBackslash t → sq_value t ≡ t
at_end t none = ap sq_value (sym (append-nil t)) ∙ value-front t [] none ∙ append-nil t

-- a backslash and an escaped character
pub escaped : (t r : List ℕ) (c : ℕ) → t ≡ c ∷ r → (c ≡ 92) ⊎ (c ≡ 39) → sq_escaped t ≡ c ∷ sq_value r
escaped t r c e f = ap sq_escaped e ∙ ap (λ v. cond v (c ∷ sq_value r) (92 ∷ c ∷ sq_value r)) (test f)
  where
    test : (c ≡ 92) ⊎ (c ≡ 39) → ((c == 92) || (c == 39)) ≡ true
    test (inl e) = ap (λ d. (d == 92) || (d == 39)) e
    test (inr e) = ap (λ d. (d == 92) || (d == 39)) e

-- the value so far, a front, and an escape
pub one_escape : (v w raw t a r more : List ℕ) (c : ℕ) → v ++ sq_value t ≡ sq_value raw → t ≡ a ++ 92 ∷ r → HasNoBackslash a → sq_escaped r ≡ c ∷ sq_value more → w ≡ (v ++ a) ++ c ∷ []
    → w ++ sq_value more ≡ sq_value raw
one_escape v w raw t a r more c is e none esc new =
    ap (λ x. x ++ sq_value more) new ∙ append_assoc (v ++ a) (c ∷ []) (sq_value more) ∙ append_assoc v a (c ∷ sq_value more)
    ∙ ap (λ x. v ++ (a ++ x)) (sym esc) ∙ ap (λ x. v ++ x) (sym (at_backslash t a r e none)) ∙ is

-- a text that is cut at its first backslash has none before it, or has none at all
pub cut_at : (bs : List ℕ) (r : Option (Bor (List ℕ) × Bor (List ℕ))) → IsSplitOnceResult 92 bs r
    → MatchOption r (HasNoBackslash bs) (λ x. (bs ≡ x.0.now ++ 92 ∷ x.1.now) × HasNoBackslash x.0.now × (length x.1.now < length bs))
cut_at bs None h = split_parts 92 bs None h (omega arith)
cut_at bs (Some x) h = let two = split_parts 92 bs (Some x) h (omega arith) in (two.0, two.1, omega (arith, ap length two.0, length-append x.0.now (92 ∷ x.1.now)))

-- what the library finds behind a byte is what stands behind it
pub behind_is : (c : ℕ) (s : List ℕ) (r : Option (Bor (List ℕ))) → MatchOption r ((rest : List ℕ) → s ≢ c ∷ rest) (λ x. s ≡ c ∷ x.now) → option_map (λ r. r.now) r ≡ behind_byte c s
behind_is c [] None h = refl
behind_is c (b ∷ s) None h = sym (ap (λ v. cond v (Some s) None) (ne_eqb b c (λ e. h s (ap (λ d. d ∷ s) e))))
behind_is c s (Some x) h = sym (ap (behind_byte c) h ∙ ap (λ v. cond v (Some x.now) None) (eq-eqb c c refl))

-- what stands before a quote at the end is found
pub before_here : (raw : List ℕ) → before_quote (raw ++ 39 ∷ []) ≡ Some raw
before_here [] = refl
before_here (b ∷ []) = refl
before_here (b ∷ c ∷ raw) = ap (option_map (λ r. b ∷ r)) (before_here (c ∷ raw))

-- and what is found stands there
pub before_found : (s raw : List ℕ) → before_quote s ≡ Some raw → s ≡ raw ++ 39 ∷ []
before_found [] raw h = cc
before_found (b ∷ []) raw h = elim (b == 39) as (λ v. (b == 39) ≡ v → cond v (Some []) None ≡ Some raw → b ∷ [] ≡ raw ++ 39 ∷ []) [
  | true ↦ λ t k. let e : raw ≡ [] = cc in ap (λ d. d ∷ []) (eqb-true b 39 t) ∙ ap (λ r. r ++ 39 ∷ []) (sym e)
  | false ↦ λ t k. cc
] refl h
before_found (b ∷ c ∷ s) raw h = elim (before_quote (c ∷ s)) as (λ r. before_quote (c ∷ s) ≡ r → option_map (λ r. b ∷ r) r ≡ Some raw → b ∷ c ∷ s ≡ raw ++ 39 ∷ []) [
  | None ↦ λ t k. cc
  | Some r ↦ λ t k. let e : b ∷ r ≡ raw = cc in ap (λ u. b ∷ u) (before_found (c ∷ s) r t) ∙ ap (λ u. u ++ 39 ∷ []) e
] refl h

-- what the library finds before a quote at the end is what stands before it
pub before_is : (s : List ℕ) (r : Option (Bor (List ℕ))) → MatchOption r ((front : List ℕ) → s ≢ front ++ (39 ∷ [])) (λ x. s ≡ x.now ++ (39 ∷ [])) → option_map (λ r. r.now) r ≡ before_quote s
before_is s None h = elim (before_quote s) as (λ r. before_quote s ≡ r → None ≡ r) [ None ↦ λ e. refl | Some raw ↦ λ e. absurd (h raw (before_found s raw e)) ] refl
before_is s (Some x) h = sym (ap before_quote h ∙ before_here x.now)
