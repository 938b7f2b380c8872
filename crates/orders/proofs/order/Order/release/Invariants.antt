use Rattle.orders.proofs.Waits.{IsHeld}
use Rattle.orders.specs.Relation.{comes}
use Rattle.orders.proofs.order.Order.release.Given as goal

abbrev pub invariant-loop-b : goal.invariant-loop-b
invariant-loop-b l = IsHeld (comes l.self) l.self.count l.a l.b l.waits l.initial.waits
