use Rattle.std.proofs.Common.{◌≡◌, drop}
use Rattle.std.specs.Str.{bytes_eq}
use Rattle.pp_value.specs.Texts.{lowered}
use Rattle.pp_eval.proofs.classes.is_lowered.Given as goal

abbrev pub invariant-loop-b : goal.invariant-loop-b
invariant-loop-b l = bytes_eq (lowered (drop l.b-index l.name)) l.rest ≡ bytes_eq (lowered l.name) l.key
