use Rattle.std.proofs.Common.{◌≡◌, ◌++◌}
use Rattle.dep_graph.specs.Pairs.{pairs_in_row}
use Rattle.dep_graph.proofs.pairs.push_row.Given as goal

abbrev pub invariant-loop-j : goal.invariant-loop-j
invariant-loop-j l = l.pairs ≡ l.initial.pairs ++ pairs_in_row l.whole l.plain l.i l.j
