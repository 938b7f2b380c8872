use Rattle.std.proofs.Common.{◌≡◌, drop}
use Rattle.pp_declarations.specs.Choosing.{default_arm}
use Rattle.pp_declarations.proofs.cases.default_arm.Given as goal

abbrev pub invariant-loop-arm : goal.invariant-loop-arm
invariant-loop-arm l = default_arm (drop l.arm-index l.arms) ≡ default_arm l.arms
