use Rattle.std.proofs.Common.{◌≡◌, ℕ, ◌<◌, get_or, false}
use Rattle.orders.specs.Relation.{comes}
use Rattle.orders.proofs.order.Order.none_before.Given as goal

abbrev pub invariant-loop-a : goal.invariant-loop-a
invariant-loop-a l = (j : ℕ) → j < l.a-index → comes l.self (get_or l.list j 0) l.b ≡ false
