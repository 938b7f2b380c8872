-- A catalog that grows resource by resource.
use Rattle.std.proofs.Common.{◌≡◌, ◌≢◌, ℕ, zero, suc, ◌+◌, ◌<◌, ◌≤◌, Bool, true, false, cond, ◌||◌, nat_lt, List, [], ◌∷◌, ◌++◌, length, map, take, drop, get_or, slice_get, Option, Some, None, codes, refl, ap, ap₂, sym, subst, ◌∙◌, arith, add-one}
use Rattle.std.specs.Prelude.{Result, Ok, Err}
use Rattle.std.specs.List.{AllByRecursion}
use Rattle.std.proofs.Math.Seq.{take-suc}
use Rattle.std.proofs.lemmas.Bool.{lt-ltb}
use Rattle.std.proofs.lemmas.List.{drop_more, length-take-le}
use Rattle.std.proofs.lemmas.Option.{slice_get_within, same_Some, none-some}
use Rattle.rh_base.specs.declared.fault.Fault.{Fault}
use Rattle.rh_base.specs.declared.fault.Fault.TheVariants as fault
use Rattle.rh_base.specs.declared.fault.Refusal.{Refusal}
use Rattle.host_limits.specs.declared.limits.Limits.{Limits}
use Rattle.host_limits.specs.Limits.{declared_limit}
use Rattle.pp_value.specs.declared.value.Ref.{Ref}
use Rattle.pp_value.specs.Values.{Pair}
use Rattle.pp_value.specs.Shown.{shown_ref}
use Rattle.pp_eval.specs.Evaluating.{◌>>=◌, Refuses, refusal}
use Rattle.catalog_semantics.specs.declared.catalog.Resource.{Resource}
use Rattle.catalog_semantics.specs.Catalogs.{Catalog}
use Rattle.catalog_semantics.specs.States.{references_of, stands_in, within_size, attributes_limit, size_of_resources}
use Rattle.catalog.specs.Adding.{added_last, added_to, with_resources, with_added}
use Rattle.compiled_text.specs.declared.catalog.CompiledResource.{CompiledResource}
use Rattle.compiled_text.specs.Compiled.{Compiled, AreDistinct, IsSound, counts_as}
use Rattle.compiled_text.proofs.RefLaws.{differs}
use Rattle.compiled_catalog.specs.Attributes.{settled_attributes}
use Rattle.compiled_catalog.specs.Catalogs.{resource_at, with_one, with_all}
use Rattle.compiled_catalog.specs.Steps.{catalog_with, HasFirst}
use Rattle.catalog.proofs.RefLaws.{count_is}
use Rattle.catalog_semantics.proofs.Once.{refs_more}

-- ---- places

-- what stands at a place is read there
read_at : (rs : List CompiledResource) (i : ℕ) (r : CompiledResource) → slice_get rs i ≡ Some r → get_or rs i r ≡ r
read_at [] i r h = refl
read_at (x ∷ rs) zero r h = same_Some x r h
read_at (x ∷ rs) (suc i) r h = read_at rs i r h

-- what is read within the list stands there
pub there : (rs : List CompiledResource) (i : ℕ) (r : CompiledResource) → r ≡ get_or rs i r → i < length rs → slice_get rs i ≡ Some r
there [] i r h k = absurd (omega (arith, k))
there (x ∷ rs) zero r h k = ap (λ y. Some y) (sym h)
there (x ∷ rs) (suc i) r h k = there rs i r h (omega (arith, k))

-- with the resource at a place the first ones are one more
one_more : (rs : List CompiledResource) (i : ℕ) (r : CompiledResource) → slice_get rs i ≡ Some r → take (i + 1) rs ≡ take i rs ++ r ∷ []
one_more rs i r h = ap (λ (n : ℕ). take n rs) (add-one i) ∙ (take-suc rs i r (slice_get_within rs i r h) ∙ ap (λ x. take i rs ++ x ∷ []) (read_at rs i r h))

-- and those that are left are one less
one_less : (rs : List CompiledResource) (i : ℕ) (r : CompiledResource) → slice_get rs i ≡ Some r → drop i rs ≡ r ∷ drop (i + 1) rs
one_less rs i r h = drop_more rs i r (slice_get_within rs i r h) ∙ ap (λ x. x ∷ drop (i + 1) rs) (read_at rs i r h)

-- the image of the last is the last image
mapped_last : (f : CompiledResource → Ref) (rs : List CompiledResource) (r : CompiledResource) → map f (rs ++ r ∷ []) ≡ map f rs ++ f r ∷ []
mapped_last f [] r = refl
mapped_last f (x ∷ rs) r = ap (λ qs. f x ∷ qs) (mapped_last f rs r)

-- and as many images as items
mapped_count : (f : CompiledResource → Ref) (rs : List CompiledResource) → length (map f rs) ≡ length rs
mapped_count f [] = refl
mapped_count f (r ∷ rs) = ap suc (mapped_count f rs)

-- ---- a reference is new

-- what differs from all references differs from that of each resource
other_at : (q : Ref) (rs : List CompiledResource) (i : ℕ) (r : CompiledResource) → AllByRecursion (λ p. q ≢ p) (map counts_as rs) → slice_get rs i ≡ Some r → q ≢ counts_as r
other_at q [] i r h e = absurd (none-some r e)
other_at q (x ∷ rs) zero r h e = λ k. h.0 (k ∙ sym (ap counts_as (same_Some x r e)))
other_at q (x ∷ rs) (suc i) r h e = other_at q rs i r h.1 e

-- no earlier resource of those that differ counts as this one
is_new : (rs : List CompiledResource) (i : ℕ) (r : CompiledResource) → AreDistinct (map counts_as rs) → slice_get rs i ≡ Some r → stands_in (counts_as r) (map counts_as (take i rs)) ≡ false
is_new [] i r d h = absurd (none-some r h)
is_new (x ∷ rs) zero r d h = refl
is_new (x ∷ rs) (suc i) r d h = ap₂ (λ a b. a || b) (differs (counts_as x) (counts_as r) (other_at (counts_as x) rs i r d.0 h)) (is_new rs i r d.1 h)

-- ---- one resource more

-- how many the catalog has
pub first_count : (c : Compiled) (n : ℕ) (k : Catalog) → n ≤ length c.resources → HasFirst c n k → length k.resources ≡ n
first_count c n k h first =
    sym (count_is k.resources) ∙ (ap length first.references ∙ (mapped_count counts_as (take n c.resources) ∙ length-take-le n c.resources h))

-- a catalog of the first resources and nothing else is that of its resources
framed : (c : Compiled) (n : ℕ) (k : Catalog) (found : Result (List Resource) Refusal) → HasFirst c n k → with_resources k found ≡ catalog_with found
framed c n k (Ok rs) first = λ i. Ok (record { resources = rs; holdings = first.no_holdings i; relations = first.no_relations i })
framed c n k (Err e) first = refl

module _ (limits : Limits) (c : Compiled) (n : ℕ) (k : Catalog) (r : CompiledResource) (attributes : List Pair) (sound : IsSound c) (few : length c.resources ≤ declared_limit limits) (there : slice_get c.resources n ≡ Some r)
    (first : HasFirst c n k) (settled : settled_attributes c.resources r ≡ Ok attributes) where
  -- the place of the resource is within the compiled catalog
  within : n < length c.resources
  within = slice_get_within c.resources n r there

  -- the catalog has as many resources as stand before it
  count : length k.resources ≡ n
  count = first_count c n k (let h = slice_get_within c.resources n r there in omega arith) first

  -- the resources with this one
  abbrev more : List Resource
  more = k.resources ++ resource_at c n r attributes ∷ []

  -- there is room for it
  room : length k.resources < declared_limit limits
  room = let h = slice_get_within c.resources n r there in let same = first_count c n k (omega arith) first in omega arith

  -- it is added where the attributes aren't too large
  added : added_to limits (resource_at c n r attributes) k.resources ≡ within_size 0 more
  added =
      ap (λ t. cond t (Err (refusal 24 0 (shown_ref (counts_as r)))) (added_last limits (resource_at c n r attributes) k.resources))
      (ap (stands_in (counts_as r)) first.references ∙ is_new c.resources n r sound.apart there)
      ∙ ap (λ t. cond t (within_size 0 (k.resources ++ resource_at c n r attributes ∷ [])) (Err (refusal 32 0 (codes "declared")))) (lt-ltb (length k.resources) (declared_limit limits) room)

  -- so it is with its attributes
  one : with_one c k.resources r ≡ within_size 0 more
  one =
      ap (λ m. m >>= (λ ps. within_size 0 (k.resources ++ resource_at c (length k.resources) r ps ∷ []))) settled
      ∙ ap (λ place. within_size 0 (k.resources ++ resource_at c place r attributes ∷ [])) count

  -- what adding answers
  pub added_is : with_added limits (resource_at c n r attributes) k ≡ catalog_with (with_one c k.resources r)
  added_is = ap (with_resources k) added ∙ (framed c n k (within_size 0 more) first ∙ ap catalog_with (sym one))

  -- with it the catalog has the first resources, and one more
  pub first_more : (new : Catalog) → with_added limits (resource_at c n r attributes) k ≡ Ok new → HasFirst c (n + 1) new
  first_more new h = at (nat_lt attributes_limit (size_of_resources more)) (sym (ap (with_resources k) added ∙ framed c n k (within_size 0 more) first) ∙ h)
    where
      one_ok : (x y : Catalog) → ◌≡◌ {A = Result Catalog Refusal} (Ok x) (Ok y) → x ≡ y
      one_ok x y e = cc

      names : references_of more ≡ map counts_as (take (n + 1) c.resources)
      names =
          refs_more k.resources (resource_at c n r attributes)
          ∙ (ap (λ qs. qs ++ counts_as r ∷ []) first.references ∙ (sym (mapped_last counts_as (take n c.resources) r) ∙ ap (map counts_as) (sym (one_more c.resources n r there))))

      at : (t : Bool) → catalog_with (cond t (Err (refusal 32 0 (codes "attributes"))) (Ok more)) ≡ Ok new → HasFirst c (n + 1) new
      at true e = cc
      at false e = subst (HasFirst c (n + 1)) (one_ok (record { resources = more; holdings = []; relations = [] }) new e) (record { references = names; no_holdings = refl; no_relations = refl })

-- ---- all resources

-- the catalog has the first resources, and with those that are left it gives the whole
pub record IsUnderway (c : Compiled) (n : ℕ) (k : Catalog) : Type 0 where
  pub first : HasFirst c n k
  pub rest : catalog_with (with_all c k.resources (drop n c.resources)) ≡ catalog_with (with_all c [] c.resources)

-- what was found, and then the others
abbrev then_all : Compiled → Result (List Resource) Refusal → List CompiledResource → Result (List Resource) Refusal
then_all c found rest = found >>= (λ so_far. with_all c so_far rest)

-- resources that are found are those of the catalog
resources_ok : (found : Result (List Resource) Refusal) (k : Catalog) → catalog_with found ≡ Ok k → found ≡ Ok k.resources
resources_ok (Ok rs) k h = let same : ◌≡◌ {A = Catalog} (record { resources = rs; holdings = []; relations = [] }) k = cc in ap (λ (x : Catalog). Ok x.resources) same
resources_ok (Err e) k h = cc

module _ (c : Compiled) (n : ℕ) (k : Catalog) (r : CompiledResource) (there : slice_get c.resources n ≡ Some r) (underway : IsUnderway c n k) where
  -- with one more resource the others give the whole
  next_is : catalog_with (then_all c (with_one c k.resources r) (drop (n + 1) c.resources)) ≡ catalog_with (with_all c [] c.resources)
  next_is = sym (ap (λ rs. catalog_with (with_all c k.resources rs)) (one_less c.resources n r there)) ∙ underway.rest

  -- so the catalog goes on with it
  pub goes_on : (new : Catalog) → catalog_with (with_one c k.resources r) ≡ Ok new → HasFirst c (n + 1) new → IsUnderway c (n + 1) new
  goes_on new h first = record {
    first = first;
    rest = sym (ap (λ m. catalog_with (then_all c m (drop (n + 1) c.resources))) (resources_ok (with_one c k.resources r) new h)) ∙ next_is;
  }

  -- a refusal of one resource is that of the whole
  pub ends : (e : Fault) → Refuses (catalog_with (with_one c k.resources r)) e → Refuses (catalog_with (with_all c [] c.resources)) e
  ends (fault.Refused x) h = sym next_is ∙ refused (with_one c k.resources r) h
    where
      refused : (found : Result (List Resource) Refusal) → catalog_with found ≡ Err x → catalog_with (then_all c found (drop (n + 1) c.resources)) ≡ Err x
      refused (Ok rs) k = cc
      refused (Err y) k = k
  ends (fault.Memory m) h = tt
