use Rattle.std.proofs.Common.{ℕ, ◌<◌, ◌≤◌, get_or, length}
use Rattle.orders.proofs.cycle.index_of_least.Given as goal

abbrev pub invariant-loop-k : goal.invariant-loop-k
invariant-loop-k l = (l.least < length l.list) × ((j : ℕ) → j < l.k → get_or l.list l.least 0 ≤ get_or l.list j 0)
