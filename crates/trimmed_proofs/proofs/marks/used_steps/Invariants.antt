use Rattle.trimmed_proofs.specs.Marks.{AreMarkedFrom}
use Rattle.trimmed_proofs.proofs.marks.used_steps.Given as goal

-- the steps from this one on have marked what they name
abbrev pub invariant-loop-i : goal.invariant-loop-i
invariant-loop-i l = AreMarkedFrom l.count l.steps l.i l.marks.items
