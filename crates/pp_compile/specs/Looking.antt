-- Which resources have been looked at, and with what.
use Rattle.std.specs.Prelude.{◌≡◌, ℕ, ◌≤◌, ◌<◌, Bool, true, false, ◌||◌, List, take, length, slice_get, Some}
use Rattle.std.specs.List.{list_any}
use Rattle.pp_value.specs.Values.{same_ref}
use Rattle.catalog_semantics.specs.declared.catalog.Resource.{Resource}
use Rattle.catalog_semantics.specs.declared.state.Collector.{Collector}
use Rattle.catalog_semantics.specs.declared.state.Pending.{Pending}
use Rattle.catalog_semantics.specs.declared.state.State.{State}
use Rattle.catalog_semantics.specs.Collecting.{matches}
use Rattle.pp_compile.specs.declared.looking.Looked.{Looked}

-- one of these collectors matches it, or one of these realizations names it
abbrev pub called_by : List Collector → List Pending → Resource → Bool
called_by collectors pending r = list_any (λ c. matches c r) collectors || list_any (λ p. same_ref p.target r.id) pending

-- what of those that have been looked at calls for it has made it real
abbrev pub IsLookedAt : Looked → State → Resource → Type 0
IsLookedAt looked s r = r.is_virtual ≡ true → called_by (take looked.collectors s.collectors) (take looked.pending s.pending) r ≡ false

-- so with each of the first resources
pub record AreLooked (looked : Looked) (s : State) : Type 0 where
  pub collectors : looked.collectors ≤ length s.collectors
  pub pending : looked.pending ≤ length s.pending
  pub below : looked.resources ≤ length s.resources
  pub resources : (i : ℕ) (r : Resource) → i < looked.resources → slice_get s.resources i ≡ Some r → IsLookedAt looked s r
