use Rattle.std.proofs.Common.{◌≡◌}
use Rattle.orders.specs.Relation.{comes}
use Rattle.commute_prune.specs.Pairs.{pairs_of}
use Rattle.repair.proofs.with.order_pairs.Given as goal

abbrev pub invariant-loop-a : goal.invariant-loop-a
invariant-loop-a l = l.pairs ≡ pairs_of (comes l.order) l.order.count l.a
