-- References with their places.
use Rattle.std.specs.Prelude.{◌≡◌, ℕ, ◌+◌, ◌≤◌, if◌then◌else◌, List, [], ◌∷◌, length, Option, Some, None}
use Rattle.pp_value.specs.declared.value.Ref.{Ref}
use Rattle.pp_value.specs.Values.{same_ref}
use Rattle.catalog_semantics.specs.declared.catalog.Resource.{Resource}
use Rattle.catalog_semantics.specs.States.{references_of, size_of_resources, declared_bound, attributes_limit}

-- the place of a reference
abbrev pub place_among : Ref → List (Ref × ℕ) → Option ℕ
place_among ref [] = None
place_among ref (p ∷ places) = if same_ref p.0 ref then Some p.1 else place_among ref places

-- references with their places, which are counted from n on
abbrev pub placed : ℕ → List Ref → List (Ref × ℕ)
placed n [] = []
placed n (q ∷ refs) = (q, n) ∷ placed (n + 1) refs

-- what stands beside a list of resources: the places of their references, and the size of all their attributes
pub record IsListed (places : List (Ref × ℕ)) (size : ℕ) (resources : List Resource) : Type 0 where
  pub refs_are : places ≡ placed 0 (references_of resources)
  pub size_is : size ≡ size_of_resources resources
  pub few : length resources ≤ declared_bound
  pub small : size ≤ attributes_limit
