use Rattle.std.proofs.Common.{◌≡◌, ◌-◌}
use Rattle.proof_check.specs.WordReading.{with_front, steps_in}
use Rattle.proof_check.proofs.text.steps.Given as goal

abbrev pub invariant-loop-i : goal.invariant-loop-i
invariant-loop-i l = with_front l.steps (steps_in l.vars (l.count - l.i) l.words) ≡ steps_in l.vars l.count l.initial.words
