-- Resources that are added, and given defaults, each with the refusal that it may meet.
use Rattle.std.specs.Prelude.{ℕ, zero, suc, false, nat_lt, if◌then◌else◌, List, [], ◌∷◌, ◌++◌, filter, length, codes, Result, Ok, Err}
use Rattle.rh_base.specs.declared.fault.Refusal.{Refusal}
use Rattle.host_limits.specs.declared.limits.Limits.{Limits}
use Rattle.host_limits.specs.Limits.{declared_limit}
use Rattle.pp_value.specs.Values.{Pair}
use Rattle.pp_value.specs.Shown.{shown_ref}
use Rattle.pp_eval.specs.Evaluating.{◌>>=◌, refusal}
use Rattle.catalog_semantics.specs.declared.catalog.Resource.{Resource}
use Rattle.catalog_semantics.specs.Catalogs.{Catalog}
use Rattle.catalog_semantics.specs.States.{references_of, stands_in, within_size, lacks}

abbrev pub added_last : Limits → Resource → List Resource → Result (List Resource) Refusal
added_last limits r resources =
    if nat_lt (length resources) (declared_limit limits) then within_size r.at (resources ++ r ∷ []) else Err (refusal 32 r.at (codes "declared"))

-- one more resource, of a new reference, where there is room for it and for its attributes
abbrev pub added_to : Limits → Resource → List Resource → Result (List Resource) Refusal
added_to limits r resources =
    if stands_in r.id (references_of resources) then Err (refusal 24 r.at (shown_ref r.id)) else added_last limits r resources

abbrev pub with_resources : Catalog → Result (List Resource) Refusal → Result Catalog Refusal
with_resources c found = do
  resources ← found
  Ok (record c { resources = resources })

-- a catalog with one more resource, within limits
abbrev pub with_added : Limits → Resource → Catalog → Result Catalog Refusal
with_added limits r c = with_resources c (added_to limits r c.resources)

-- ---- defaults

-- a pair goes last, unless its name is there
abbrev pub with_lacking : List Pair → Pair → List Pair
with_lacking attributes p = if lacks attributes p then attributes ++ p ∷ [] else attributes

-- each of these in turn
abbrev pub with_all_lacking : List Pair → List Pair → List Pair
with_all_lacking attributes [] = attributes
with_all_lacking attributes (p ∷ pairs) = with_all_lacking (with_lacking attributes p) pairs

-- a resource with those of the pairs whose names it hasn't got
abbrev pub with_attributes : List Pair → Resource → Resource
with_attributes pairs r = record r { attrs = r.attrs ++ filter (lacks r.attrs) pairs }

-- some resources, of which another stands in the place of one
abbrev pub changed_at : ℕ → (Resource → Resource) → List Resource → List Resource
changed_at place change [] = []
changed_at zero change (r ∷ resources) = change r ∷ resources
changed_at (suc place) change (r ∷ resources) = r ∷ changed_at place change resources

-- where the resource at a place stands in the source
abbrev pub place_in_text : ℕ → List Resource → ℕ
place_in_text place [] = 0
place_in_text zero (r ∷ resources) = r.at
place_in_text (suc place) (r ∷ resources) = place_in_text place resources

-- the one at a place with those of the pairs whose names it hasn't got, unless all attributes together are too large then
abbrev pub filled_at : ℕ → List Pair → List Resource → Result (List Resource) Refusal
filled_at place pairs resources = within_size (place_in_text place resources) (changed_at place (with_attributes pairs) resources)

abbrev pub with_filled : ℕ → List Pair → Catalog → Result Catalog Refusal
with_filled place pairs c = with_resources c (filled_at place pairs c.resources)

-- ---- virtual resources

abbrev pub made_real : Resource → Resource
made_real r = record r { is_virtual = false }

abbrev pub with_realized : ℕ → Catalog → Catalog
with_realized place c = record c { resources = changed_at place made_real c.resources }
