use Rattle.std.proofs.Common.{◌≡◌, ◌++◌, ◌+◌, ◌*◌, take}
use Rattle.std.specs.Prelude.{codes}
use Rattle.std.specs.List.{flat_map}
use Rattle.pp_print.specs.Words.{keyword}
use Rattle.pp_print.specs.Statements.{stmt_words, arm_words, case_arm_words}
use Rattle.pp_print.proofs.statement.+statement.Given as goal

abbrev pub invariant-statements-loop-s : goal.invariant-statements-loop-s
invariant-statements-loop-s l = l.words ≡ l.initial.words ++ flat_map stmt_words (take l.s-index l.body)

abbrev pub invariant-conditions-loop-a : goal.invariant-conditions-loop-a
invariant-conditions-loop-a l = l.words ≡ l.initial.words ++ flat_map (λ x. keyword (codes "elsif") ++ arm_words x) (take l.a-index l.more)

abbrev pub invariant-case_arms-loop-a : goal.invariant-case_arms-loop-a
invariant-case_arms-loop-a l = l.words ≡ l.initial.words ++ flat_map case_arm_words (take l.a-index l.arms)

abbrev pub decreases-stmt : goal.decreases-stmt
decreases-stmt l = 8 * goal.size-stmt l + 0

abbrev pub decreases-statements : goal.decreases-statements
decreases-statements l = 8 * goal.size-statements l + 1

abbrev pub decreases-block : goal.decreases-block
decreases-block l = 8 * goal.size-block l + 2

abbrev pub decreases-otherwise : goal.decreases-otherwise
decreases-otherwise l = 8 * goal.size-otherwise l + 3

abbrev pub decreases-arm : goal.decreases-arm
decreases-arm l = 8 * goal.size-arm l + 0

abbrev pub decreases-conditions : goal.decreases-conditions
decreases-conditions l = 8 * goal.size-conditions l + 1

abbrev pub decreases-unless : goal.decreases-unless
decreases-unless l = 8 * goal.size-unless l + 3

abbrev pub decreases-case_arm : goal.decreases-case_arm
decreases-case_arm l = 8 * goal.size-case_arm l + 0

abbrev pub decreases-case_arms : goal.decreases-case_arms
decreases-case_arms l = 8 * goal.size-case_arms l + 1

abbrev pub decreases-case : goal.decreases-case
decreases-case l = 8 * goal.size-case l + 2
