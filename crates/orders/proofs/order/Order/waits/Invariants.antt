use Rattle.std.proofs.Common.{◌≡◌, ℕ, ◌<◌, length, get_or, []}
use Rattle.orders.specs.Relation.{comes}
use Rattle.orders.specs.Counting.{waiting}
use Rattle.orders.proofs.order.Order.waits.Given as goal

abbrev pub invariant-loop-a : goal.invariant-loop-a
invariant-loop-a l = (length l.waits.items ≡ l.self.count) × ((b : ℕ) → b < l.self.count → get_or l.waits.items b 0 ≡ waiting (comes l.self) [] l.a b)
