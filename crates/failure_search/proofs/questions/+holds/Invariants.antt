use Rattle.std.proofs.Common.{◌+◌, ◌*◌}
use Rattle.fs_lang.specs.Meaning.{test_of}
use Rattle.fs_lang.specs.Sizes.{test_size}
use Rattle.failure_search.proofs.questions.+holds.Given as goal

abbrev pub decreases-holds : goal.decreases-holds
decreases-holds l = 2 * test_size (test_of l.test.now)

abbrev pub decreases-fails : goal.decreases-fails
decreases-fails l = 2 * test_size (test_of l.a.now) + 1

abbrev pub decreases-both_hold : goal.decreases-both_hold
decreases-both_hold l = 2 * test_size (test_of l.a.now) + 2 * test_size (test_of l.b.now) + 1

abbrev pub decreases-one_holds : goal.decreases-one_holds
decreases-one_holds l = 2 * test_size (test_of l.a.now) + 2 * test_size (test_of l.b.now) + 1
