-- The attributes but `replace`.
use Rattle.std.proofs.Common.{◌≡◌, ℕ, Bool, true, false, cond, not, List, [], ◌∷◌, drop, length, ◌≤◌, Option, Some, None, bytes_eq, codes, refl, sym, ap, ◌∙◌}
use Rattle.pp_value.specs.Keys.{value_at, with_pairs, HasDistinctKeys}
use Rattle.pp_value.specs.Values.{Pair}
use Rattle.pp_value.specs.declared.value.Value.{Value}
use Rattle.compiled_models.specs.Files.{without_replace}
use Rattle.assumed_models.proofs.NamedLaws.{past}

-- a name that is missing is missing without `replace`
still_free : (key : List ℕ) (attrs : List Pair) → value_at key attrs ≡ None → value_at key (without_replace attrs) ≡ None
still_free key [] h = refl
still_free key (p ∷ attrs) h = at (not (bytes_eq p.0 (codes "replace"))) (bytes_eq p.0 key) refl (still_free key attrs) h
  where
    none : (x : Value) → ◌≡◌ {A = Option Value} (Some x) None → ⊥
    none x e = cc

    at : (s t : Bool) → bytes_eq p.0 key ≡ t → (value_at key attrs ≡ None → value_at key (without_replace attrs) ≡ None) → cond t (Some p.1) (value_at key attrs) ≡ None
        → value_at key (cond s (p ∷ without_replace attrs) (without_replace attrs)) ≡ None
    at s true e more k = absurd (none p.1 k)
    at true false e more k = ap (λ u. cond u (Some p.1) (value_at key (without_replace attrs))) e ∙ more k
    at false false e more k = more k

-- distinct names stay so without it
still_distinct : (attrs : List Pair) → HasDistinctKeys attrs → HasDistinctKeys (without_replace attrs)
still_distinct [] h = tt
still_distinct (p ∷ attrs) h = at (not (bytes_eq p.0 (codes "replace"))) (still_distinct attrs h.1)
  where
    at : (s : Bool) → HasDistinctKeys (without_replace attrs) → HasDistinctKeys (cond s (p ∷ without_replace attrs) (without_replace attrs))
    at true more = (still_free p.0 attrs h.0, more)
    at false more = more

-- all attributes were taken, one after another
pub all_taken : ((pairs : List Pair) → HasDistinctKeys pairs → with_pairs [] pairs ≡ pairs) → (rest attrs : List Pair) (i : ℕ) → length attrs ≤ i → HasDistinctKeys attrs
    → with_pairs rest (without_replace (drop i attrs)) ≡ with_pairs [] (without_replace attrs) → rest ≡ without_replace attrs
all_taken kept rest attrs i h distinct is = sym (ap (λ l. with_pairs rest (without_replace l)) (past attrs i h)) ∙ (is ∙ kept (without_replace attrs) (still_distinct attrs distinct))
