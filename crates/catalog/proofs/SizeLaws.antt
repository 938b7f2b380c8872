-- Sizes of attributes.
use Rattle.std.proofs.Common.{◌≡◌, ℕ, zero, suc, ◌+◌, ◌-◌, ◌^◌, ◌<◌, ◌≤◌, min, List, [], ◌∷◌, ◌++◌, length, get_or, Option, Some, None, refl, ap, sym, ◌∙◌, subst, length-append, arith}
use Rattle.pp_value.specs.Values.{Pair}
use Rattle.catalog_semantics.specs.declared.catalog.Resource.{Resource}
use Rattle.std.specs.Prelude.{slice_get, slice_set, filter}
use Rattle.std.proofs.lemmas.Option.{slice_get-get_or}
use Rattle.catalog_semantics.specs.States.{references_of, size_of_attributes, size_of_resources, declared_bound, attributes_limit, lacks}
use Rattle.catalog.proofs.RefLaws.{placed_last, count_is}
use Rattle.catalog.specs.Adding.{changed_at, made_real, with_attributes, place_in_text}
use Rattle.pp_value.specs.declared.value.Ref.{Ref}
use Rattle.catalog.specs.Places.{placed, IsListed}
use Rattle.catalog_semantics.proofs.Once.{refs_more}

-- the size of two lists of attributes is the sum of both
pub sizes_join : (a b : List Pair) → size_of_attributes (a ++ b) ≡ size_of_attributes a + size_of_attributes b
sizes_join [] b = omega arith
sizes_join (p ∷ a) b = let rest = sizes_join a b in omega arith

-- one more resource adds the size of its attributes
pub size_last : (resources : List Resource) (r : Resource) → size_of_resources (resources ++ r ∷ []) ≡ size_of_resources resources + size_of_attributes r.attrs
size_last [] r = omega arith
size_last (q ∷ resources) r = let rest = size_last resources r in omega arith

-- ---- a resource is changed at its place

-- a changed resource adds what it is larger
pub size_changed : (place : ℕ) (f : Resource → Resource) (resources : List Resource) (r : Resource) → slice_get resources place ≡ Some r
    → size_of_resources (changed_at place f resources) + size_of_attributes r.attrs ≡ size_of_resources resources + size_of_attributes (f r).attrs
size_changed place f [] r h = absurd (no_item h)
  where
    no_item : ◌≡◌ {A = Option Resource} None (Some r) → ⊥
    no_item e = cc
size_changed zero f (q ∷ resources) r h =
    let same : q ≡ r = cc in
    let left : size_of_attributes (f q).attrs ≡ size_of_attributes (f r).attrs = ap (λ x. size_of_attributes (f x).attrs) same in
    let right : size_of_attributes q.attrs ≡ size_of_attributes r.attrs = ap (λ x. size_of_attributes x.attrs) same in
    omega arith
size_changed (suc place) f (q ∷ resources) r h = let rest = size_changed place f resources r h in omega arith

-- a change that leaves a reference leaves all
pub references_stay : (place : ℕ) (f : Resource → Resource) → ((r : Resource) → (f r).id ≡ r.id) → (resources : List Resource) → references_of (changed_at place f resources) ≡ references_of resources
references_stay place f same [] = refl
references_stay zero f same (r ∷ resources) = ap (λ q. q ∷ references_of resources) (same r)
references_stay (suc place) f same (r ∷ resources) = ap (λ more. r.id ∷ more) (references_stay place f same resources)

-- a change makes none more or less
pub count_stays : (place : ℕ) (f : Resource → Resource) (resources : List Resource) → length (changed_at place f resources) ≡ length resources
count_stays place f [] = refl
count_stays zero f (r ∷ resources) = refl
count_stays (suc place) f (r ∷ resources) = ap suc (count_stays place f resources)

-- where the resource at a place stands in the text
pub place_is : (place : ℕ) (resources : List Resource) (r : Resource) → slice_get resources place ≡ Some r → place_in_text place resources ≡ r.at
place_is place [] r h = absurd (no_item h)
  where
    no_item : ◌≡◌ {A = Option Resource} None (Some r) → ⊥
    no_item e = cc
place_is zero (q ∷ resources) r h = let same : q ≡ r = cc in ap (λ x. x.at) same
place_is (suc place) (q ∷ resources) r h = place_is place resources r h

-- writing a changed resource at its place is changing it there
pub set_is : (f : Resource → Resource) (resources : List Resource) (place : ℕ) (d q : Resource) → q ≡ get_or resources place d → place < length resources
    → slice_set resources place (f q) ≡ changed_at place f resources
set_is f [] place d q h within = refl
set_is f (r ∷ resources) zero d q h within = ap (λ x. f x ∷ resources) h
set_is f (r ∷ resources) (suc place) d q h within = ap (λ more. r ∷ more) (set_is f resources place d q h (omega arith))

-- making a resource real leaves the size
size_stays : (place : ℕ) (resources : List Resource) → size_of_resources (changed_at place made_real resources) ≡ size_of_resources resources
size_stays place [] = refl
size_stays zero (r ∷ resources) = refl
size_stays (suc place) (r ∷ resources) = ap (λ n. size_of_attributes r.attrs + n) (size_stays place resources)

-- making a resource real leaves what stands beside the list right
pub still_listed : (places : List (Ref × ℕ)) (size place : ℕ) (resources : List Resource) → IsListed places size resources → IsListed places size (changed_at place made_real resources)
still_listed places size place resources h =
    let few = h.few in
    let count = count_stays place made_real resources in
    record {
      refs_are = h.refs_are ∙ ap (placed 0) (sym (references_stay place made_real (λ r. refl) resources));
      size_is = h.size_is ∙ sym (size_stays place resources);
      few = omega arith;
      small = h.small;
    }

-- ---- sums that stop at the greatest u64

-- a sum that stops at the greatest u64 is the sum, where it isn't over the limit
pub sum_is : (size a s more : ℕ) → s ≡ min a (2 ^ 64 - 1) → more ≡ min (size + s) (2 ^ 64 - 1) → more ≤ attributes_limit → more ≡ size + a
sum_is size a s more h k small = omega arith

-- and where it is over the limit, so is the sum
pub sum_over : (size a s more : ℕ) → s ≡ min a (2 ^ 64 - 1) → more ≡ min (size + s) (2 ^ 64 - 1) → attributes_limit < more → attributes_limit < size + a
sum_over size a s more h k large = omega arith

-- ---- one more

-- what stands beside the list is right with one more resource
pub listed_more : (places : List (Ref × ℕ)) (size more : ℕ) (resources : List Resource) (r : Resource) → IsListed places size resources
    → length resources < declared_bound → more ≡ size + size_of_attributes r.attrs → more ≤ attributes_limit
    → IsListed (places ++ (r.id, length resources) ∷ []) more (resources ++ r ∷ [])
listed_more places size more resources r h room sum small =
    let size_is = h.size_is in
    let last = size_last resources r in
    let count : length (resources ++ r ∷ []) ≡ length resources + 1 = length-append resources (r ∷ []) in
    let place : length resources ≡ 0 + length (references_of resources) = sym (count_is resources) ∙ omega arith in
    record {
      refs_are = ap (λ ps. ps ++ (r.id, length resources) ∷ []) h.refs_are
          ∙ (ap (λ n. placed 0 (references_of resources) ++ (r.id, n) ∷ []) place
          ∙ (sym (placed_last 0 r.id (references_of resources)) ∙ ap (placed 0) (sym (refs_more resources r))));
      size_is = omega arith;
      few = omega arith;
      small = small;
    }

-- ---- filled

-- changes that are the same of the resource at a place are the same
pub changed_same : (place : ℕ) (f g : Resource → Resource) (resources : List Resource) (r : Resource) → slice_get resources place ≡ Some r → f r ≡ g r
    → changed_at place f resources ≡ changed_at place g resources
changed_same place f g [] r h e = refl
changed_same zero f g (q ∷ resources) r h e =
    let same : q ≡ r = cc in
    ap (λ x. x ∷ resources) (ap f same ∙ (e ∙ ap g (sym same)))
changed_same (suc place) f g (q ∷ resources) r h e = ap (λ more. q ∷ more) (changed_same place f g resources r h e)

-- defaults that are filled in add their size
pub size_filled : (place : ℕ) (pairs : List Pair) (resources : List Resource) (r : Resource) → slice_get resources place ≡ Some r
    → size_of_resources (changed_at place (with_attributes pairs) resources) ≡ size_of_resources resources + size_of_attributes (filter (lacks r.attrs) pairs)
size_filled place pairs resources r h =
    let whole = size_changed place (with_attributes pairs) resources r h in
    let parts = sizes_join r.attrs (filter (lacks r.attrs) pairs) in
    omega arith

-- what stands beside the list is right with them
pub listed_filled : (places : List (Ref × ℕ)) (size more place : ℕ) (pairs : List Pair) (resources : List Resource) (r : Resource) → IsListed places size resources
    → slice_get resources place ≡ Some r → more ≡ size + size_of_attributes (filter (lacks r.attrs) pairs) → more ≤ attributes_limit
    → IsListed places more (changed_at place (with_attributes pairs) resources)
listed_filled places size more place pairs resources r h at sum small =
    let size_is = h.size_is in
    let few = h.few in
    let after = size_filled place pairs resources r at in
    let count = count_stays place (with_attributes pairs) resources in
    record {
      refs_are = h.refs_are ∙ ap (placed 0) (sym (references_stay place (with_attributes pairs) (λ r. refl) resources));
      size_is = omega arith;
      few = omega arith;
      small = small;
    }

-- so it is of equal lists
pub listed_as : (places others : List (Ref × ℕ)) (size : ℕ) (resources more : List Resource) → others ≡ places → more ≡ resources → IsListed places size resources → IsListed others size more
listed_as places others size resources more e k h = subst (λ ps. IsListed ps size more) (sym e) (subst (IsListed places size) (sym k) h)

-- a resource within the list stands at its place
pub there : (resources : List Resource) (place : ℕ) (r : Resource) → r ≡ get_or resources place r → place < length resources → slice_get resources place ≡ Some r
there resources place r e within = slice_get-get_or resources place r within ∙ ap Some (sym e)
