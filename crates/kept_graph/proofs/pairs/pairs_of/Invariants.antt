use Rattle.std.proofs.Common.{◌≡◌, length}
use Rattle.commute_prune.specs.Pairs.{pairs_of}
use Rattle.kept_graph.specs.Pairs.{comes_at}
use Rattle.kept_graph.proofs.pairs.pairs_of.Given as goal

abbrev pub invariant-loop-i : goal.invariant-loop-i
invariant-loop-i l = l.pairs ≡ pairs_of (comes_at l.order l.nodes) (length l.nodes) l.i
