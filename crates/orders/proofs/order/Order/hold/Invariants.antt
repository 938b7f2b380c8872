use Rattle.orders.proofs.Waits.{IsHeld}
use Rattle.orders.specs.Relation.{comes}
use Rattle.orders.proofs.order.Order.hold.Given as goal

abbrev pub invariant-loop-b : goal.invariant-loop-b
invariant-loop-b l = IsHeld (comes l.self) l.self.count l.a l.b l.initial.waits l.waits
