use Rattle.std.proofs.Common.{◌≡◌, ◌≤◌, length}
use Rattle.proof_check.specs.WordsLeft.{other_lines}
use Rattle.proof_check.proofs.text.past_line.Given as goal

abbrev pub invariant-loop-b : goal.invariant-loop-b
invariant-loop-b l = (other_lines l.rest ≡ other_lines l.text) × (length l.rest ≤ length l.text)

abbrev pub decreases-loop-b : goal.decreases-loop-b
decreases-loop-b l = length l.rest
