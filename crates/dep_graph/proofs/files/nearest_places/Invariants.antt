use Rattle.std.proofs.Common.{◌≡◌, ◌++◌, drop}
use Rattle.dep_graph.specs.Files.{places_above, nearest_places}
use Rattle.dep_graph.proofs.files.nearest_places.Given as goal

abbrev pub invariant-loop-f : goal.invariant-loop-f
invariant-loop-f l = l.places ++ places_above l.n l.p (drop l.f-index l.files) ≡ nearest_places l.files l.p
