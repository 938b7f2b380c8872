use Rattle.std.proofs.Common.{◌≡◌, ◌++◌, drop}
use Rattle.trimmed_proofs.specs.Marks.{new_number, kept}
use Rattle.trimmed_proofs.proofs.steps.kept_steps.Given as goal

-- the marked steps so far, with those of the others, are all marked steps
abbrev pub invariant-loop-i : goal.invariant-loop-i
invariant-loop-i l = l.left ++ kept (new_number l.count l.numbers) (drop l.i l.steps) (drop l.i l.marks) ≡ kept (new_number l.count l.numbers) l.steps l.marks
