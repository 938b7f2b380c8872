-- Attributes that are filled in, one after the other.
use Rattle.std.proofs.Common.{◌≡◌, ℕ, Bool, true, false, cond, List, [], ◌∷◌, ◌++◌, Some, None, refl, ap, sym, ◌∙◌, append_assoc, append-nil}
use Rattle.std.specs.Prelude.{filter, is_none}
use Rattle.std.specs.List.{AllByRecursion}
use Rattle.std.specs.Str.{bytes_eq}
use Rattle.std.specs.Cmp.Lexicographic.{nat_list_eq_equiv}
use Rattle.pp_value.specs.Values.{Pair, value_at, HasDistinctKeys}
use Rattle.pp_value.proofs.Distinct.{by_test, at_first, at_later}
use Rattle.catalog_semantics.specs.States.{lacks}
use Rattle.catalog.specs.Adding.{with_all_lacking}
use Rattle.catalog_semantics.proofs.DistinctNames.{some_none}

-- none of these has a key of the others
abbrev AreNew : List Pair → List Pair → Type 0
AreNew done pairs = AllByRecursion (λ p. value_at p.0 done ≡ None) pairs

-- a name that isn't behind is looked up in front
front_found : (key : List ℕ) (a b : List Pair) → value_at key b ≡ None → value_at key (a ++ b) ≡ value_at key a
front_found key [] b h = h
front_found key (p ∷ a) b h = ap (cond (bytes_eq p.0 key) (Some p.1)) (front_found key a b h)

-- a name without a value differs from the first, and has none among the others
differs : (key : List ℕ) (q : Pair) (pairs : List Pair) → value_at key (q ∷ pairs) ≡ None → (bytes_eq q.0 key ≡ false) × (value_at key pairs ≡ None)
differs key q pairs h =
    by_test (bytes_eq q.0 key) ((bytes_eq q.0 key ≡ false) × (value_at key pairs ≡ None))
    (λ e. absurd (some_none q.1 (value_at key (q ∷ pairs)) (at_first key q pairs e) h))
    (λ e. (e, sym (at_later key q pairs e) ∙ h))

-- those behind stay new when one of another name goes before them
still_new : (done : List Pair) (p : Pair) (pairs : List Pair) → AreNew done pairs → value_at p.0 pairs ≡ None → AreNew (done ++ p ∷ []) pairs
still_new done p [] h n = tt
still_new done p (q ∷ pairs) h n =
    let d = differs p.0 q pairs n in
    let turned : bytes_eq p.0 q.0 ≡ false = nat_list_eq_equiv.symm p.0 q.0 ∙ d.0 in
    (front_found q.0 done (p ∷ []) (at_later q.0 p [] turned) ∙ h.0, still_new done p pairs h.1 d.1)

-- a default that is kept, or left out, and those behind it are filled in alike
step : (attributes done : List Pair) (p : Pair) (pairs : List Pair)
    → ((more : List Pair) → AreNew more pairs → with_all_lacking (attributes ++ more) pairs ≡ attributes ++ (more ++ filter (lacks attributes) pairs))
    → AreNew done pairs → value_at p.0 pairs ≡ None → (t : Bool)
    → with_all_lacking (cond t ((attributes ++ done) ++ p ∷ []) (attributes ++ done)) pairs ≡ attributes ++ (done ++ cond t (p ∷ filter (lacks attributes) pairs) (filter (lacks attributes) pairs))
step attributes done p pairs rest new none true =
    ap (λ more. with_all_lacking more pairs) (append_assoc attributes done (p ∷ []))
    ∙ (rest (done ++ p ∷ []) (still_new done p pairs new none) ∙ ap (λ more. attributes ++ more) (append_assoc done (p ∷ []) (filter (lacks attributes) pairs)))
step attributes done p pairs rest new none false = rest done new

-- defaults that are filled in one after the other are those that were lacked, behind what stands
filled_from : (attributes done pairs : List Pair) → AreNew done pairs → HasDistinctKeys pairs
    → with_all_lacking (attributes ++ done) pairs ≡ attributes ++ (done ++ filter (lacks attributes) pairs)
filled_from attributes done [] new d = ap (λ more. attributes ++ more) (sym (append-nil done))
filled_from attributes done (p ∷ pairs) new d =
    ap (λ t. with_all_lacking (cond t ((attributes ++ done) ++ p ∷ []) (attributes ++ done)) pairs) (ap is_none (front_found p.0 attributes done new.0))
    ∙ step attributes done p pairs (λ more n. filled_from attributes more pairs n d.1) new.1 d.0 (lacks attributes p)

-- all are new behind none
all_new : (pairs : List Pair) → AreNew [] pairs
all_new [] = tt
all_new (p ∷ pairs) = (refl, all_new pairs)

-- pairs of distinct names, filled in one after the other, are those that the attributes lack
pub filled_is : (attributes pairs : List Pair) → HasDistinctKeys pairs → with_all_lacking attributes pairs ≡ attributes ++ filter (lacks attributes) pairs
filled_is attributes pairs d = ap (λ more. with_all_lacking more pairs) (sym (append-nil attributes)) ∙ filled_from attributes [] pairs (all_new pairs) d
