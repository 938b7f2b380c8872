-- Which programs change nothing that another one looks at.
use Rattle.std.specs.Prelude.{◌≡◌, ◌↔◌, ℕ, ◌<◌, Bool, false, IsTrue, List, [], length, slice_index_or}
use Rattle.fs_semantics.specs.Programs.{Program, Id}
use Rattle.effect_sets.specs.Footprints.{Footprint, footprint, IsClearOf}

-- the cell in row i and column j
abbrev pub cell : List (List Bool) → ℕ → ℕ → Bool
cell rows i j = slice_index_or (slice_index_or rows i []) j false

-- A row for each of n footprints, with a cell for each: whether what the first changes is clear of what the second looks at.
pub record IsMatrixOf (n : ℕ) (f : ℕ → Footprint) (rows : List (List Bool)) : Type 0 where
  pub long : length rows ≡ n
  pub cells : (i j : ℕ) → i < n → j < n → IsTrue (cell rows i j) ↔ IsClearOf (f i) (f j)

-- that of the footprints of these programs
abbrev pub IsMatrix : List Program → List (List Bool) → Type 0
IsMatrix es rows = IsMatrixOf (length es) (λ i. footprint (slice_index_or es i Id)) rows
