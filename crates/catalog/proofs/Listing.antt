-- What is answered where a resource is added, or filled.
use Rattle.std.proofs.Common.{◌≡◌, ℕ, ◌+◌, ◌<◌, ◌≤◌, true, false, cond, List, [], ◌∷◌, ◌++◌, length, Some, Result, Ok, Err, ap, sym, ◌∙◌, arith}
use Rattle.std.specs.Prelude.{codes, slice_get}
use Rattle.std.proofs.lemmas.Bool.{lt-ltb, le-ltb}
use Rattle.rh_base.specs.declared.fault.Fault.{Fault}
use Rattle.rh_base.specs.declared.fault.Fault.TheVariants as fault
use Rattle.rh_base.specs.declared.fault.Refusal.{Refusal}
use Rattle.rh_base.specs.Refused.{IfRefused}
use Rattle.host_limits.specs.declared.limits.Limits.{Limits}
use Rattle.host_limits.specs.Limits.{declared_limit}
use Rattle.pp_value.specs.Values.{Pair}
use Rattle.pp_value.specs.Shown.{shown_ref}
use Rattle.pp_eval.specs.Evaluating.{Refuses, refusal}
use Rattle.catalog_semantics.specs.declared.catalog.Resource.{Resource}
use Rattle.catalog_semantics.specs.States.{references_of, stands_in, within_size, attributes_limit, size_of_resources, size_of_attributes}
use Rattle.catalog.specs.Adding.{added_last, added_to, filled_at, changed_at, with_attributes, place_in_text}
use Rattle.catalog.proofs.SizeLaws.{size_last, place_is}

-- a refusal that is the one that is due is due
pub refused_with : {Y : Type 0} (wanted : Result Y Refusal) (x : Refusal) → wanted ≡ Err x → (e : Fault) → IfRefused e (λ y. y ≡ x) → Refuses wanted e
refused_with wanted x h (fault.Refused y) k = h ∙ ap Err (sym k)
refused_with wanted x h (fault.Memory m) k = tt

module _ (limits : Limits) (r : Resource) (resources : List Resource) where
  -- a resource whose reference stands already is refused with code 24
  pub twice : stands_in r.id (references_of resources) ≡ true → added_to limits r resources ≡ Err (refusal 24 r.at (shown_ref r.id))
  twice h = ap (λ t. cond t (Err (refusal 24 r.at (shown_ref r.id))) (added_last limits r resources)) h

  -- one whose reference is new goes last, if there is room
  new : stands_in r.id (references_of resources) ≡ false → added_to limits r resources ≡ added_last limits r resources
  new h = ap (λ t. cond t (Err (refusal 24 r.at (shown_ref r.id))) (added_last limits r resources)) h

  -- where as many are declared as may be, it is refused with code 32
  pub no_room : stands_in r.id (references_of resources) ≡ false → declared_limit limits ≤ length resources → added_to limits r resources ≡ Err (refusal 32 r.at (codes "declared"))
  no_room h k = new h ∙ ap (λ t. cond t (within_size r.at (resources ++ r ∷ [])) (Err (refusal 32 r.at (codes "declared")))) (le-ltb (length resources) (declared_limit limits) k)

  -- where fewer are, it goes last unless the attributes are too large
  with_room : stands_in r.id (references_of resources) ≡ false → length resources < declared_limit limits → added_to limits r resources ≡ within_size r.at (resources ++ r ∷ [])
  with_room h k = new h ∙ ap (λ t. cond t (within_size r.at (resources ++ r ∷ [])) (Err (refusal 32 r.at (codes "declared")))) (lt-ltb (length resources) (declared_limit limits) k)

-- attributes that are too large are refused
too_many : (at : ℕ) (resources : List Resource) → attributes_limit < size_of_resources resources → within_size at resources ≡ Err (refusal 32 at (codes "attributes"))
too_many at resources h = ap (λ t. cond t (Err (refusal 32 at (codes "attributes"))) (Ok resources)) (lt-ltb attributes_limit (size_of_resources resources) h)

-- and others aren't
few_enough : (at : ℕ) (resources : List Resource) → size_of_resources resources ≤ attributes_limit → within_size at resources ≡ Ok resources
few_enough at resources h = ap (λ t. cond t (Err (refusal 32 at (codes "attributes"))) (Ok resources)) (le-ltb attributes_limit (size_of_resources resources) h)

module _ (limits : Limits) (r : Resource) (resources : List Resource) (new_one : stands_in r.id (references_of resources) ≡ false) (room : length resources < declared_limit limits) where
  -- a resource with which the attributes are too large is refused
  pub too_large : attributes_limit < size_of_resources resources + size_of_attributes r.attrs → added_to limits r resources ≡ Err (refusal 32 r.at (codes "attributes"))
  too_large h = let last = size_last resources r in with_room limits r resources new_one room ∙ too_many r.at (resources ++ r ∷ []) (omega arith)

  -- and one with which they aren't goes last
  pub fits : size_of_resources resources + size_of_attributes r.attrs ≤ attributes_limit → added_to limits r resources ≡ Ok (resources ++ r ∷ [])
  fits h = let last = size_last resources r in with_room limits r resources new_one room ∙ few_enough r.at (resources ++ r ∷ []) (omega arith)

module _ (place : ℕ) (pairs : List Pair) (resources : List Resource) (r : Resource) (there : slice_get resources place ≡ Some r) where
  -- defaults with which the attributes are too large are refused
  pub filled_large : attributes_limit < size_of_resources (changed_at place (with_attributes pairs) resources) → filled_at place pairs resources ≡ Err (refusal 32 r.at (codes "attributes"))
  filled_large h =
      too_many (place_in_text place resources) (changed_at place (with_attributes pairs) resources) h
      ∙ ap (λ at. Err (refusal 32 at (codes "attributes"))) (place_is place resources r there)

  -- and those with which they aren't are filled in
  pub filled_fits : size_of_resources (changed_at place (with_attributes pairs) resources) ≤ attributes_limit → filled_at place pairs resources ≡ Ok (changed_at place (with_attributes pairs) resources)
  filled_fits h = few_enough (place_in_text place resources) (changed_at place (with_attributes pairs) resources) h
