-- What the resource at a place adds.
use Rattle.std.proofs.Common.{◌≡◌, arith, ℕ, zero, suc, ◌+◌, Bool, true, false, cond, List, [], ◌∷◌, ◌++◌, map, length, drop, add-one, refl, sym, ap, ◌∙◌, append_assoc}
use Rattle.std.specs.Prelude.{filter, slice_get, Some}
use Rattle.pp_value.specs.declared.value.Ref.{Ref}
use Rattle.catalog_semantics.specs.declared.catalog.Relation.{Relation}
use Rattle.catalog_semantics.specs.declared.catalog.Resource.{Resource}
use Rattle.catalog_semantics.specs.declared.state.Collector.{Collector}
use Rattle.catalog_semantics.specs.Catalogs.{matched, real_plain}
use Rattle.pp_declared_catalog.specs.Results.{is_hit, hits, is_real_plain}

-- the rest begins with the one at the place
rest_at : (all : List Resource) (i : ℕ) (r : Resource) → slice_get all i ≡ Some r → drop i all ≡ r ∷ drop (suc i) all
rest_at [] i r h = cc
rest_at (q ∷ all) zero r h = let same : q ≡ r = cc in ap (λ (x : Resource). x ∷ all) same
rest_at (q ∷ all) (suc i) r h = rest_at all i r h

-- the rest begins with the resource at the place
rest_from : (all : List Resource) (i : ℕ) (r : Resource) → slice_get all i ≡ Some r → drop i all ≡ r ∷ drop (i + 1) all
rest_from all i r h = rest_at all i r h ∙ ap (λ n. r ∷ drop n all) (sym (add-one i))

-- a resource that is a hit has its reference in front of the others
hit_by : (r : Resource) (b : Bool) (found : List Resource) → map (λ (q : Resource). q.id) (cond b (r ∷ found) found) ≡ cond b (r.id ∷ []) [] ++ map (λ q. q.id) found
hit_by r true found = refl
hit_by r false found = refl

-- one more resource adds its reference, where it is a hit
pub next_hit : (c : Collector) (all : List Resource) (i : ℕ) (r : Resource) (refs : List Ref) → slice_get all i ≡ Some r
    → refs ++ matched (drop i all) (Some c) ≡ (refs ++ hits c r) ++ matched (drop (i + 1) all) (Some c)
next_hit c all i r refs h =
    ap (λ rest. refs ++ matched rest (Some c)) (rest_from all i r h)
    ∙ (ap (λ (found : List Ref). refs ++ found) (hit_by r (is_hit c r) (filter (is_hit c) (drop (i + 1) all)))
    ∙ sym (append_assoc refs (hits c r) (matched (drop (i + 1) all) (Some c))))

-- a resource that counts makes one more
counted_by : (r : Resource) (n : ℕ) (b : Bool) (found : List Resource) → n + length (cond b (r ∷ found) found) ≡ (n + cond b 1 0) + length found
counted_by r n true found = omega arith
counted_by r n false found = omega arith

-- one more resource counts, where it is a real one of a built-in type
pub next_count : (all : List Resource) (i n : ℕ) (r : Resource) → slice_get all i ≡ Some r
    → n + length (real_plain (drop i all)) ≡ (n + cond (is_real_plain r) 1 0) + length (real_plain (drop (i + 1) all))
next_count all i n r h = ap (λ rest. n + length (real_plain rest)) (rest_from all i r h) ∙ counted_by r n (is_real_plain r) (real_plain (drop (i + 1) all))

-- one more behind two parts is one more behind the second
pub one_behind : (front yielded : List Relation) (r : Relation) → (front ++ yielded) ++ r ∷ [] ≡ front ++ (yielded ++ r ∷ [])
one_behind front yielded r = append_assoc front yielded (r ∷ [])
