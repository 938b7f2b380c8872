use Rattle.std.proofs.Common.{◌≡◌, ◌++◌, drop}
use Rattle.dep_graph.specs.Files.{edges_from, file_edges}
use Rattle.dep_graph.proofs.files.push_file_edges.Given as goal

abbrev pub invariant-loop-f : goal.invariant-loop-f
invariant-loop-f l = l.edges ++ edges_from l.links l.files (drop l.f-index l.files) ≡ l.initial.edges ++ file_edges l.links l.files
