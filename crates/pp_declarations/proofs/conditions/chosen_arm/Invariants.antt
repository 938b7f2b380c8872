use Rattle.std.proofs.Common.{◌≡◌, drop}
use Rattle.pp_declarations.specs.Choosing.{chosen_arm}
use Rattle.pp_declarations.proofs.conditions.chosen_arm.Given as goal

abbrev pub invariant-loop-arm : goal.invariant-loop-arm
invariant-loop-arm l = chosen_arm l.scopes (drop l.arm-index l.arms) l.other ≡ chosen_arm l.scopes l.arms l.other
