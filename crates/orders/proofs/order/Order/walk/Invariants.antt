use Rattle.orders.specs.Relation.{Comes}
use Rattle.orders.specs.Exchanges.{count_turned}
use Rattle.orders.proofs.Walks.{IsWalking}
use Rattle.orders.proofs.order.Order.walk.Given as goal

abbrev pub invariant-loop-k : goal.invariant-loop-k
invariant-loop-k l = IsWalking l.self.count (Comes l.self) l.from l.to l.order.items l.orders

abbrev pub decreases-loop-k : goal.decreases-loop-k
decreases-loop-k l = count_turned l.order.items l.to
