use Rattle.std.proofs.Common.{◌≡◌, ◌<◌, ◌^◌, drop}
use Rattle.proof_check.specs.Reading.{digits_behind}
use Rattle.proof_check.proofs.text.digits.Given as goal

abbrev pub invariant-loop-b : goal.invariant-loop-b
invariant-loop-b l = (l.n < 2 ^ 63) × (digits_behind l.n (drop l.b-index l.word) ≡ digits_behind 0 l.word)
