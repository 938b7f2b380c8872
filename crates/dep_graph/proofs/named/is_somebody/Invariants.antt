use Rattle.std.proofs.Common.{◌≡◌, drop}
use Rattle.graph_semantics.specs.Automatic.{is_somebody}
use Rattle.dep_graph.proofs.named.is_somebody.Given as goal

abbrev pub invariant-loop-c : goal.invariant-loop-c
invariant-loop-c l = is_somebody (drop l.c-index l.bytes) ≡ is_somebody l.name
