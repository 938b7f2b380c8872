use Rattle.std.proofs.Common.{take}
use Rattle.dep_graph.specs.Files.{AreFiles}
use Rattle.dep_graph.proofs.files.files_of.Given as goal

abbrev pub invariant-loop-place : goal.invariant-loop-place
invariant-loop-place l = AreFiles l.catalog (take l.place-index l.plain) l.files
