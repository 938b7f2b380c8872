use Rattle.std.proofs.Common.{◌≡◌, ◌++◌, drop}
use Rattle.graph_semantics.specs.Graphs.{plain_from, plain_places}
use Rattle.dep_graph.proofs.structure.plain_places.Given as goal

abbrev pub invariant-loop-place : goal.invariant-loop-place
invariant-loop-place l = l.places ++ plain_from l.place (drop l.place l.catalog.resources) ≡ plain_places l.catalog
