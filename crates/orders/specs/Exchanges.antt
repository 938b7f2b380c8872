-- Orders that differ by exchanges of two neighbours.
use Rattle.std.specs.Prelude.{◌≡◌, ◌==◌, ℕ, suc, ◌+◌, List, [], ◌∷◌, nat_lt, if◌then◌else◌}
use Rattle.fs_semantics.specs.Orders.{IsLinearExtension, IsExchange}

-- linear extensions, each the one before it with two neighbouring free nodes exchanged, lead from the one to the other
pub data Joined (n : ℕ) (before : ℕ → ℕ → Type 0) : List ℕ → List ℕ → Type 0 where
  same : {order : List ℕ} → IsLinearExtension n before order → Joined n before order order
  exchange : {order next last : List ℕ} → IsLinearExtension n before order → IsExchange before order next → Joined n before next last
      → Joined n before order last

-- the list of orders begins with `from`, ends with `to`, and each is a linear extension,
-- which the next one is with two neighbouring free nodes exchanged
abbrev pub IsWalk : (n : ℕ) → (ℕ → ℕ → Type 0) → List ℕ → List (List ℕ) → List ℕ → Type 0
IsWalk n before from [] to = ⊥
IsWalk n before from (order ∷ []) to = (order ≡ from) × IsLinearExtension n before order × (order ≡ to)
IsWalk n before from (order ∷ next ∷ orders) to =
    (order ≡ from) × IsLinearExtension n before order × IsExchange before order next × IsWalk n before next (next ∷ orders) to

-- how many nodes stand ahead of k
abbrev pub place : ℕ → List ℕ → ℕ
place k [] = 0
place k (i ∷ order) = if i == k then 0 else suc (place k order)

-- how many of these nodes stand ahead of k in the order
abbrev pub count_ahead : List ℕ → ℕ → List ℕ → ℕ
count_ahead order k [] = 0
count_ahead order k (i ∷ nodes) = (if nat_lt (place i order) (place k order) then 1 else 0) + count_ahead order k nodes

-- how many pairs of nodes stand in different order in the two lists: the one ahead in `from` stands behind in `to`
abbrev pub count_turned : List ℕ → List ℕ → ℕ
count_turned [] to = 0
count_turned (k ∷ from) to = count_ahead to k from + count_turned from to
