use Rattle.std.proofs.Common.{◌≡◌, ◌++◌}
use Rattle.commute_prune.specs.Pairs.{row_of}
use Rattle.kept_graph.specs.Pairs.{comes_at}
use Rattle.kept_graph.proofs.pairs.push_row.Given as goal

abbrev pub invariant-loop-j : goal.invariant-loop-j
invariant-loop-j l = l.pairs ≡ l.initial.pairs ++ row_of (comes_at l.order l.nodes) l.i l.j
