use Rattle.std.proofs.Common.{◌≡◌, length}
use Rattle.proof_check.specs.WordReading.{with_front, lits_in}
use Rattle.proof_check.proofs.text.literals.Given as goal

abbrev pub invariant-loop-lit : goal.invariant-loop-lit
invariant-loop-lit l = with_front l.into.items (lits_in l.vars l.words) ≡ lits_in l.vars l.initial.words

abbrev pub decreases-loop-lit : goal.decreases-loop-lit
decreases-loop-lit l = length l.words
