-- The programs of several resources.
use Rattle.std.specs.Prelude.{◌≡◌, ℕ, List, [], ◌∷◌, ◌++◌, slice_get, Option, Some, None, Result, Ok, Err}
use Rattle.rh_base.specs.Refused.{IfRefused}
use Rattle.rh_base.specs.declared.fault.Fault.{Fault}
use Rattle.rh_base.specs.declared.fault.Fault.TheVariants as faults
use Rattle.fs_semantics.specs.FileTree.{Path}
use Rattle.fs_semantics.specs.Programs as language
use Rattle.pp_eval.specs.Evaluating.{Refuses}
use Rattle.catalog_semantics.specs.declared.catalog.Resource.{Resource}
use Rattle.pkg_listing.specs.Packages.{Packages}
use Rattle.model_semantics.specs.Words.{sequence}
use Rattle.model_semantics.specs.declared.kinds.ModelFault.{ModelFault}
use Rattle.model_semantics.specs.declared.kinds.ModelFault.TheVariants as fault
use Rattle.model_semantics.specs.Models as models

-- the resource alone, if there is one
abbrev pub resource_at : Option Resource → List Resource
resource_at None = []
resource_at (Some r) = r ∷ []

-- the resources at these places, in this order
abbrev pub resources_at : List Resource → List ℕ → List Resource
resources_at resources [] = []
resources_at resources (i ∷ plain) = resource_at (slice_get resources i) ++ resources_at resources plain

-- the fault that a cause gives a resource
abbrev pub IsFaultOf : Resource → ModelFault → Fault → Type 0
IsFaultOf r (fault.Because c) f = IfRefused f (λ x. x ≡ models.refusal_of r c)
IsFaultOf r (fault.Memory m) (faults.Memory n) = Unit {0}
IsFaultOf r (fault.Memory m) (faults.Refused x) = ⊥

-- The program of one resource more is added, and its place is kept; or it is refused.
abbrev pub AddsProgram : List Path → Packages → Resource → Result (Unit {0}) Fault → List Path → List Path
    → List language.Program → List language.Program → Type 0
AddsProgram barred listing r (Ok done) seen new_seen old new =
    (m : models.Model) × (models.or_refused r (models.new_model barred seen listing r) ≡ Ok m)
    × (new_seen ≡ seen ++ m.place ∷ []) × (new ≡ old ++ sequence m.steps ∷ [])
AddsProgram barred listing r (Err e) seen new_seen old new = Refuses (models.or_refused r (models.new_model barred seen listing r)) e
