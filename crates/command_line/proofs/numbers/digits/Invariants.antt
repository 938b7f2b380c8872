use Rattle.std.proofs.Common.{◌≡◌, ◌≤◌, drop}
use Rattle.command_line.specs.Words.{digits_within}
use Rattle.command_line.proofs.numbers.digits.Given as goal

abbrev pub invariant-loop-b : goal.invariant-loop-b
invariant-loop-b l = (l.n ≤ l.most) × (digits_within l.most l.n (drop l.b-index l.word) ≡ digits_within l.most 0 l.word)
