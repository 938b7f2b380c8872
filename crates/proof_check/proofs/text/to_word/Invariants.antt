use Rattle.std.proofs.Common.{◌≡◌, ◌≤◌, length}
use Rattle.proof_check.specs.WordsLeft.{words_left}
use Rattle.proof_check.proofs.text.to_word.Given as goal

abbrev pub invariant-loop-b : goal.invariant-loop-b
invariant-loop-b l = record {
  words : words_left l.fresh l.rest ≡ words_left l.initial.fresh l.initial.rest;
  shorter : length l.rest ≤ length l.initial.rest;
}

abbrev pub decreases-loop-b : goal.decreases-loop-b
decreases-loop-b l = length l.rest
