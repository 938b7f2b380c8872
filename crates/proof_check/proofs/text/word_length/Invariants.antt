use Rattle.std.proofs.Common.{◌≡◌, take, true}
use Rattle.std.specs.List.{AllByRecursion}
use Rattle.proof_check.specs.WordsLeft.{is_inner}
use Rattle.proof_check.proofs.text.word_length.Given as goal

abbrev pub invariant-loop-n : goal.invariant-loop-n
invariant-loop-n l = AllByRecursion (λ b. is_inner b ≡ true) (take l.n l.text)
