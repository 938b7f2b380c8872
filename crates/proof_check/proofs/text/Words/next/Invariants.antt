use Rattle.std.proofs.Common.{◌≡◌, length}
use Rattle.proof_check.specs.WordsLeft.{words_left}
use Rattle.proof_check.proofs.text.Words.next.Given as goal

abbrev pub invariant-loop-word : goal.invariant-loop-word
invariant-loop-word l = words_left l.fresh l.rest ≡ words_left l.initial.fresh l.initial.rest

abbrev pub decreases-loop-word : goal.decreases-loop-word
decreases-loop-word l = length l.rest
