use Rattle.std.proofs.Common.{◌≡◌, ◌++◌, drop}
use Rattle.graph_semantics.specs.Graphs.{resource_lines}
use Rattle.dep_graph.proofs.printing.push_resources.Given as goal

abbrev pub invariant-loop-place : goal.invariant-loop-place
invariant-loop-place l = l.text ++ resource_lines l.catalog (drop l.place-index l.plain) ≡ l.initial.text ++ resource_lines l.catalog l.plain
