-- Containers and what they hold.
use Rattle.std.specs.Prelude.{◌≡◌, ℕ, List, Some, IfSome, slice_get}
use Rattle.std.specs.List.{AllByRecursion}
use Rattle.catalog_semantics.specs.declared.catalog.Resource.{Resource}
use Rattle.catalog_semantics.specs.declared.state.Holding.{Holding}
use Rattle.catalog_semantics.specs.Declaring.{class_ref}
use Rattle.catalog_semantics.specs.Frames.{IsContainerAt}

-- where a resource has a holder, that is a class or a defined resource
abbrev pub AreHeld : List Resource → Type 0
AreHeld resources = AllByRecursion (λ (r : Resource). IfSome r.holder (λ place. IsContainerAt place resources)) resources

-- the class of this name stands at a place
abbrev pub IsClassAt : ℕ → List Resource → Type 0
IsClassAt place resources = (r : Resource) × (name : List ℕ) × (slice_get resources place ≡ Some r) × (r.id ≡ class_ref name)

-- each holding has a class in a class or a defined resource
abbrev pub HoldClasses : List Resource → List Holding → Type 0
HoldClasses resources holdings = AllByRecursion (λ (h : Holding). IsContainerAt h.outer resources × IsClassAt h.class resources) holdings
