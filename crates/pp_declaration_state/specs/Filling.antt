-- Defaults take hold in one resource.
use Rattle.std.specs.Prelude.{ℕ, List, Result}
use Rattle.rh_base.specs.declared.fault.Refusal.{Refusal}
use Rattle.catalog_semantics.specs.declared.catalog.Resource.{Resource}
use Rattle.catalog_semantics.specs.declared.state.Default.{Default}
use Rattle.catalog_semantics.specs.States.{with_defaults, within_size}
use Rattle.catalog.specs.Adding.{changed_at, place_in_text}

-- the one at a place has its defaults
abbrev pub filled_one : List Default → ℕ → List Resource → Result (List Resource) Refusal
filled_one defaults place resources = within_size (place_in_text place resources) (changed_at place (with_defaults defaults) resources)
