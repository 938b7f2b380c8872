-- The first linear extension: at each step the least node that may come next.
use Rattle.std.specs.Prelude.{◌≡◌, ℕ, ◌<◌, ◌≤◌, List, [], ◌∷◌, ◌++◌}
use Rattle.fs_semantics.specs.Orders.{times}

-- k may come next: it isn't taken, and all that comes before it is
pub record IsReady (n : ℕ) (before : ℕ → ℕ → Type 0) (taken : List ℕ) (k : ℕ) : Type 0 where
  pub below : k < n
  pub fresh : times k taken ≡ 0
  pub free : (a : ℕ) → before a k → 1 ≤ times a taken

-- k may come next, and no lesser node may
pub record IsLeastReady (n : ℕ) (before : ℕ → ℕ → Type 0) (taken : List ℕ) (k : ℕ) : Type 0 where
  pub ready : IsReady n before taken k
  pub least : (j : ℕ) → IsReady n before taken j → k ≤ j

-- when these are taken, each of the order is the least that may come next
abbrev pub TakesLeast : (n : ℕ) → (ℕ → ℕ → Type 0) → List ℕ → List ℕ → Type 0
TakesLeast n before taken [] = Unit {0}
TakesLeast n before taken (k ∷ order) = IsLeastReady n before taken k × TakesLeast n before (taken ++ k ∷ []) order
