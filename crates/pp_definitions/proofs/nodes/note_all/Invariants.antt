use Rattle.std.proofs.Common.{◌≡◌, drop}
use Rattle.pp_definitions.specs.Places.{noted_all}
use Rattle.pp_definitions.proofs.nodes.note_all.Given as goal

abbrev pub invariant-loop-name : goal.invariant-loop-name
invariant-loop-name l = noted_all l.at (drop l.name-index l.block) l.names ≡ noted_all l.at l.block l.initial.names
