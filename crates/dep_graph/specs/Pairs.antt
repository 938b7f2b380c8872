-- Pairs of plain resources, of which the one comes before the other.
use Rattle.std.specs.Prelude.{◌<◌, ℕ, zero, suc, ◌*◌, Bool, if◌then◌else◌, List, [], ◌∷◌, ◌++◌, length, slice_index}
use Rattle.catalog_semantics.specs.States.{declared_bound}
use Rattle.orders.specs.Relation.{Relation, comes}

-- the number of the resource at the place is that of a node
pub record IsWithin (count place : ℕ) : Type 0 where
  pub node : 2 * place < count
  pub few : place < declared_bound

-- of two plain resources the one comes before the other
abbrev pub comes_at : Relation → List ℕ → ℕ → ℕ → Bool
comes_at whole plain i j = comes whole (2 * slice_index plain i) (2 * slice_index plain j)

-- the pair, if the test holds
abbrev pub pair_if : Bool → ℕ → ℕ → List (ℕ × ℕ)
pair_if t i j = if t then (i, j) ∷ [] else []

-- of one with the first n
abbrev pub pairs_in_row : Relation → List ℕ → ℕ → ℕ → List (ℕ × ℕ)
pairs_in_row whole plain i zero = []
pairs_in_row whole plain i (suc j) = pairs_in_row whole plain i j ++ pair_if (comes_at whole plain i j) i j

-- of each of the first n with all
abbrev pub pairs_below : Relation → List ℕ → ℕ → List (ℕ × ℕ)
pairs_below whole plain zero = []
pairs_below whole plain (suc i) = pairs_below whole plain i ++ pairs_in_row whole plain i (length plain)
