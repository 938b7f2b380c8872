-- The edges in chains.
use Rattle.std.proofs.Common.{◌≡◌, ℕ, ◌<◌, List, length}
use Rattle.std.specs.Prelude.{slice_index}
use Rattle.orders.specs.Search.{source, latest}

-- the first k edges are in chains
pub record IsLinked (n : ℕ) (edges : List (ℕ × ℕ)) (k : ℕ) (heads nexts : List ℕ) : Type 0 where
  pub heads_len : length heads ≡ n
  pub nexts_len : length nexts ≡ k
  pub heads_are : (a : ℕ) → a < n → slice_index heads a ≡ latest edges a k
  pub nexts_are : (j : ℕ) → j < k → slice_index nexts j ≡ latest edges (source edges j) j
