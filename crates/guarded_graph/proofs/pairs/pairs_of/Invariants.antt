use Rattle.std.proofs.Common.{◌≡◌, ◌+◌}
use Rattle.orders.specs.Relation.{comes}
use Rattle.commute_prune.specs.Pairs.{pairs_of}
use Rattle.given_hosts.specs.Guard.{guard_before}
use Rattle.guarded_graph.proofs.pairs.pairs_of.Given as goal

abbrev pub invariant-loop-i : goal.invariant-loop-i
invariant-loop-i l = l.pairs ≡ pairs_of (guard_before l.order.count (comes l.order)) (l.order.count + 1) l.i
