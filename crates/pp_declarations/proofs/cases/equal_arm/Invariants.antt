use Rattle.std.proofs.Common.{◌≡◌, drop}
use Rattle.pp_declarations.specs.Choosing.{equal_arm}
use Rattle.pp_declarations.proofs.cases.equal_arm.Given as goal

abbrev pub invariant-loop-arm : goal.invariant-loop-arm
invariant-loop-arm l = equal_arm l.scopes l.at l.x (drop l.arm-index l.arms) ≡ equal_arm l.scopes l.at l.x l.arms
