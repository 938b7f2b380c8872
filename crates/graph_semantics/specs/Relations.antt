-- What comes before what because the manifest says so: relations between resources, by metaparameters and by arrows.
use Rattle.std.specs.Prelude.{◌≡◌, ℕ, Bool, if◌then◌else◌, List, [], ◌∷◌, ◌++◌, map, Option, Some, None, option_map, option_and_then}
use Rattle.std.specs.Prelude.{slice_get, is_some}
use Rattle.std.specs.List.{Contains, flat_map}
use Rattle.rh_base.specs.declared.fault.Refusal.{Refusal}
use Rattle.pp_value.specs.declared.value.Ref.{Ref}
use Rattle.pp_value.specs.declared.value.Value.{Value, Row_of-Value, end_of-Value, more_of-Value}
use Rattle.pp_value.specs.declared.value.Value.TheVariants as v
use Rattle.pp_value.specs.Values.{Pair}
use Rattle.pp_value.specs.Shown.{shown_ref}
use Rattle.pp_eval.specs.Evaluating.{refusal}
use Rattle.catalog_semantics.specs.declared.catalog.Resource.{Resource}
use Rattle.catalog_semantics.specs.declared.catalog.Relation.{Relation}
use Rattle.catalog_semantics.specs.Attributes.{says_before, says_after}
use Rattle.catalog_semantics.specs.States.{place_of}
use Rattle.catalog_semantics.specs.Catalogs.{Catalog}

-- ---- real resources

-- a resource, unless it is virtual and nothing made it real
abbrev pub if_real : Resource → Option Resource
if_real r = if r.is_virtual then None else Some r

-- the real resource or the class at a place
abbrev pub real_at : Catalog → ℕ → Option Resource
real_at c place = option_and_then if_real (slice_get c.resources place)

-- the place, if what stands there is real
abbrev pub if_real_at : Catalog → ℕ → Option ℕ
if_real_at c place = option_map (λ r. place) (real_at c place)

-- the place of the real resource or the class that a reference names
abbrev pub target_of : Catalog → Ref → Option ℕ
target_of c ref = option_and_then (if_real_at c) (place_of ref c.resources)

-- ---- metaparameters

-- the reference that a value is, or those in a list, at any depth
abbrev mutual
  pub references_within : Value → List Ref
  references_within v.Undef = []
  references_within (v.Bool b) = []
  references_within (v.Int n) = []
  references_within (v.Str text) = []
  references_within (v.List' shape row) = references_within_row row
  references_within (v.Map' shape row) = []
  references_within (v.Refer r) = r ∷ []
  references_within v.Opaque = []

  pub references_within_row : {m : _} → Row_of-Value m → List Ref
  references_within_row end_of-Value = []
  references_within_row (more_of-Value x row) = references_within x ++ references_within_row row

-- what an attribute says of the order, if it is a metaparameter
abbrev pub relations_by : Resource → Pair → List Relation
relations_by r p =
    if says_before p.0 then record { from = r.id ∷ []; to = references_within p.1; at = r.at } ∷ []
    else (if says_after p.0 then record { from = references_within p.1; to = r.id ∷ []; at = r.at } ∷ [] else [])

-- what a resource says; one that is still virtual says nothing
abbrev pub relations_of : Resource → List Relation
relations_of r = if r.is_virtual then [] else flat_map (relations_by r) r.attrs

-- what all metaparameters say, resource by resource
abbrev pub metaparameter_relations : Catalog → List Relation
metaparameter_relations c = flat_map relations_of c.resources

-- Each resource of the one side comes before each of the other: by metaparameters, and then by arrows.
abbrev pub all_relations : Catalog → List Relation
all_relations c = metaparameter_relations c ++ c.relations

-- ---- what they relate

-- a relation names the real resource at one place on its one side, and that at another on its other side
pub record Relates (c : Catalog) (q : Relation) (first second : ℕ) : Type 0 where
  pub left : Ref
  pub right : Ref
  pub from : Contains q.from left
  pub to : Contains q.to right
  pub from_is : target_of c left ≡ Some first
  pub to_is : target_of c right ≡ Some second

-- a relation stands directly from the one to the other, whatever way it was written
abbrev pub IsRelated : Catalog → ℕ → ℕ → Type 0
IsRelated c first second = (q : Relation) × Contains (all_relations c) q × Relates c q first second

-- ---- what they name that isn't there

-- the references of a relation, each with its place in the text: first those of the side that comes before
abbrev pub mentions : Relation → List (Ref × ℕ)
mentions q = map (λ ref. (ref, q.at)) (q.from ++ q.to)

-- the first of these that names no real resource and no class
abbrev pub first_missing : Catalog → List (Ref × ℕ) → Option Refusal
first_missing c [] = None
first_missing c (m ∷ more) = if is_some (target_of c m.0) then first_missing c more else Some (refusal 40 m.1 (shown_ref m.0))

-- the refusal of the first reference to nothing: in metaparameters by resources, and then in arrows
abbrev pub missing_target : Catalog → Option Refusal
missing_target c = first_missing c (flat_map mentions (all_relations c))
