use Rattle.std.proofs.Common.{◌≡◌, ◌++◌}
use Rattle.orders.specs.Relation.{comes}
use Rattle.commute_prune.specs.Pairs.{row_of}
use Rattle.given_hosts.specs.Guard.{guard_before}
use Rattle.guarded_graph.proofs.pairs.push_row.Given as goal

abbrev pub invariant-loop-j : goal.invariant-loop-j
invariant-loop-j l = l.pairs ≡ l.initial.pairs ++ row_of (guard_before l.order.count (comes l.order)) l.i l.j
