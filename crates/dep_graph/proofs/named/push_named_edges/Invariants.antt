use Rattle.std.proofs.Common.{◌≡◌, ◌++◌, drop}
use Rattle.dep_graph.specs.Named.{named_edges}
use Rattle.dep_graph.proofs.named.push_named_edges.Given as goal

abbrev pub invariant-loop-place : goal.invariant-loop-place
invariant-loop-place l = l.edges ++ named_edges l.catalog l.links l.plain (drop l.place-index l.plain) ≡ l.initial.edges ++ named_edges l.catalog l.links l.plain l.plain
