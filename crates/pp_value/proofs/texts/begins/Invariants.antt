use Rattle.std.proofs.Common.{◌≡◌, length}
use Rattle.pp_value.specs.Texts.{lowered, begins}
use Rattle.pp_value.proofs.texts.begins.Given as goal

abbrev pub invariant-loop-x : goal.invariant-loop-x
invariant-loop-x l = begins (lowered l.front) (lowered l.rest) ≡ begins (lowered l.part) (lowered l.text)

abbrev pub decreases-loop-x : goal.decreases-loop-x
decreases-loop-x l = length l.front
