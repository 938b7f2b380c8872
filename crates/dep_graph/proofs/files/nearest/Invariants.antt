use Rattle.std.proofs.Common.{◌≡◌, drop}
use Rattle.std.specs.Prelude.{max}
use Rattle.dep_graph.specs.Files.{nearest}
use Rattle.dep_graph.proofs.files.nearest.Given as goal

abbrev pub invariant-loop-f : goal.invariant-loop-f
invariant-loop-f l = max l.most (nearest (drop l.f-index l.files) l.p) ≡ nearest l.files l.p
