-- Places below a number.
use Rattle.std.proofs.Common.{ℕ, ◌<◌, List, [], ◌∷◌, ◌++◌}
use Rattle.std.specs.List.{AllByRecursion}

-- one more of them
pub one_more : (n : ℕ) (places : List ℕ) (place : ℕ) → AllByRecursion (λ i. i < n) places → place < n → AllByRecursion (λ i. i < n) (places ++ place ∷ [])
one_more n [] place h k = (k, tt)
one_more n (p ∷ places) place h k = (h.0, one_more n places place h.1 k)
