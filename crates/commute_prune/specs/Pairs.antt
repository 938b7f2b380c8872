-- Pairs of numbers that pass a test.
use Rattle.std.specs.Prelude.{ℕ, zero, suc, Bool, if◌then◌else◌, List, [], ◌∷◌, ◌++◌}

-- the pair, if the test holds
abbrev pub pair_if : Bool → ℕ → ℕ → List (ℕ × ℕ)
pair_if t i j = if t then (i, j) ∷ [] else []

-- of one number with each of the first m
abbrev pub row_of : (ℕ → ℕ → Bool) → ℕ → ℕ → List (ℕ × ℕ)
row_of test i zero = []
row_of test i (suc j) = row_of test i j ++ pair_if (test i j) i j

-- of each of the first n with each of the first m
abbrev pub pairs_of : (ℕ → ℕ → Bool) → ℕ → ℕ → List (ℕ × ℕ)
pairs_of test m zero = []
pairs_of test m (suc i) = pairs_of test m i ++ row_of test i m
