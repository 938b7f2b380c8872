-- How defaults take hold, said of all resources at once.
use Rattle.std.specs.Prelude.{◌≡◌, ℕ, ◌<◌, ◌≤◌, List, [], ◌∷◌, ◌++◌, map, codes}
use Rattle.rh_base.specs.declared.fault.Refusal.{Refusal}
use Rattle.pp_eval.specs.Evaluating.{refusal}
use Rattle.catalog_semantics.specs.declared.catalog.Resource.{Resource}
use Rattle.catalog_semantics.specs.declared.state.Default.{Default}
use Rattle.catalog_semantics.specs.States.{with_defaults, size_of_resources, attributes_limit}

-- how large the attributes are where the first resources have their defaults, and those behind them not yet
abbrev pub size_with : List Default → List Resource → List Resource → ℕ
size_with defaults front back = size_of_resources (map (with_defaults defaults) front ++ back)

-- One resource after the other gets its defaults, and the refusal is at the first with which the attributes are too large.
pub record IsFirstTooLarge (defaults : List Default) (resources : List Resource) (e : Refusal) : Type 0 where
  pub front : List Resource
  pub resource : Resource
  pub back : List Resource
  pub whole : resources ≡ front ++ resource ∷ back
  pub large : attributes_limit < size_with defaults (front ++ resource ∷ []) back
  pub first : (before : List Resource) (r : Resource) (behind : List Resource) → front ≡ before ++ r ∷ behind
      → size_with defaults (before ++ r ∷ []) (behind ++ resource ∷ back) ≤ attributes_limit
  pub is : e ≡ refusal 32 resource.at (codes "attributes")
