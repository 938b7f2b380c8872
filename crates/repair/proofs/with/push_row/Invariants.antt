use Rattle.std.proofs.Common.{◌≡◌, ◌++◌}
use Rattle.orders.specs.Relation.{comes}
use Rattle.commute_prune.specs.Pairs.{row_of}
use Rattle.repair.proofs.with.push_row.Given as goal

abbrev pub invariant-loop-b : goal.invariant-loop-b
invariant-loop-b l = l.pairs ≡ l.initial.pairs ++ row_of (comes l.order) l.a l.b
