use Rattle.std.proofs.Common.{◌≡◌, ◌++◌, drop}
use Rattle.trimmed_proofs.specs.Marks.{numbers_from}
use Rattle.trimmed_proofs.proofs.steps.new_numbers.Given as goal

-- the numbers so far, with those of the other marks, are all numbers
abbrev pub invariant-loop-marked : goal.invariant-loop-marked
invariant-loop-marked l = l.numbers.items ++ numbers_from l.last (drop l.marked-index l.marks) ≡ numbers_from l.count l.marks
