use Rattle.std.proofs.Common.{◌≡◌}
use Rattle.dep_graph.specs.Pairs.{pairs_below}
use Rattle.dep_graph.proofs.pairs.pairs_of.Given as goal

abbrev pub invariant-loop-i : goal.invariant-loop-i
invariant-loop-i l = l.pairs ≡ pairs_below l.whole l.plain l.i
