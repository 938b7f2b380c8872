use Rattle.std.proofs.Common.{◌≡◌, take}
use Rattle.kept_graph.specs.Contracted.{expanded}
use Rattle.kept_graph.proofs.contracted.expand.Given as goal

abbrev pub invariant-loop-i : goal.invariant-loop-i
invariant-loop-i l = l.whole ≡ expanded l.pruned (take l.i-index l.order)
