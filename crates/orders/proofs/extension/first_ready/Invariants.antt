use Rattle.std.proofs.Common.{ℕ, ◌<◌}
use Rattle.orders.specs.Counting.{CanGo}
use Rattle.orders.proofs.extension.first_ready.Given as goal

abbrev pub invariant-loop-node : goal.invariant-loop-node
invariant-loop-node l = (j : ℕ) → j < l.node → CanGo l.taken l.waits j → ⊥
