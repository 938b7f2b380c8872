use Rattle.std.proofs.Common.{◌≡◌, ◌++◌, drop}
use Rattle.pp_value.specs.Texts.{lowered}
use Rattle.pp_eval.proofs.classes.lower.Given as goal

abbrev pub invariant-loop-b : goal.invariant-loop-b
invariant-loop-b l = l.key.items ++ lowered (drop l.b-index l.name) ≡ lowered l.name
