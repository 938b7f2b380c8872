use Rattle.std.proofs.Common.{◌≡◌}
use Rattle.dep_graph.specs.Numbered.{structure_edges}
use Rattle.dep_graph.proofs.structure.structure_edges.Given as goal

abbrev pub invariant-loop-place : goal.invariant-loop-place
invariant-loop-place l = l.edges ≡ structure_edges l.catalog l.place
