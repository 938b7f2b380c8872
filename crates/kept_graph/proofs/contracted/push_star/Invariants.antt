use Rattle.std.proofs.Common.{◌≡◌, ◌++◌}
use Rattle.kept_graph.specs.Contracted.{star}
use Rattle.kept_graph.proofs.contracted.push_star.Given as goal

abbrev pub invariant-loop-i : goal.invariant-loop-i
invariant-loop-i l = l.edges ≡ l.fn.edges ++ star l.n l.i
