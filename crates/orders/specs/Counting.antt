-- How many nodes a node still waits for.
use Rattle.std.specs.Prelude.{◌≡◌, ℕ, zero, suc, ◌+◌, ◌<◌, List, [], ◌∷◌, Bool, false, not, ◌&&◌, slice_index, slice_index_or, if◌then◌else◌}
use Rattle.std.specs.List.{AllByRecursion}
use Rattle.fs_semantics.specs.Orders.{times}

-- whether a is a node that comes before b and isn't taken
abbrev pub holds_up : (ℕ → ℕ → Bool) → List Bool → ℕ → ℕ → Bool
holds_up before taken a b = before a b && not (slice_index_or taken a false)

-- how many nodes below n come before b and aren't taken
abbrev pub waiting : (ℕ → ℕ → Bool) → List Bool → ℕ → ℕ → ℕ
waiting before taken zero b = 0
waiting before taken (suc n) b = (if holds_up before taken n b then 1 else 0) + waiting before taken n b

-- how many marks are false
abbrev pub count_false : List Bool → ℕ
count_false [] = 0
count_false (mark ∷ marks) = (if mark then 0 else 1) + count_false marks

-- each number below n exactly once, and no other
pub record EachOnce (n : ℕ) (list : List ℕ) : Type 0 where
  pub below : AllByRecursion (λ k. k < n) list
  pub once : (k : ℕ) → k < n → times k list ≡ 1

-- node k isn't taken and waits for none
pub record CanGo (taken : List Bool) (waits : List ℕ) (k : ℕ) : Type 0 where
  pub fresh : slice_index_or taken k false ≡ false
  pub free : slice_index waits k ≡ 0
