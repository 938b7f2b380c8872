use Rattle.std.proofs.Common.{drop}
use Rattle.fs_semantics.specs.Orders.{NoneAhead}
use Rattle.orders.specs.Relation.{Comes}
use Rattle.orders.proofs.order.Order.is_kept.Given as goal

abbrev pub invariant-loop-k : goal.invariant-loop-k
invariant-loop-k l = NoneAhead (Comes l.self) (drop l.k l.list) → NoneAhead (Comes l.self) l.list
