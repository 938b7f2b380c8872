-- Marks, one for each place.
use Rattle.std.specs.Prelude.{◌≡◌, ◌==◌, ℕ, Bool, false, List, slice_index_or}
use Rattle.std.specs.List.{list_any}

-- The marked places are these.
abbrev pub AreMarked : List Bool → List ℕ → Type 0
AreMarked marks places = (place : ℕ) → slice_index_or marks place false ≡ list_any (λ k. place == k) places
