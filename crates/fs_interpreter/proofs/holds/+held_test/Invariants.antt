use Rattle.std.proofs.Common.{◌+◌, ◌*◌}
use Rattle.fs_lang.specs.Meaning.{test_of}
use Rattle.fs_lang.specs.Sizes.{test_size}
use Rattle.fs_interpreter.proofs.holds.+held_test.Given as goal

abbrev pub decreases-holds : goal.decreases-holds
decreases-holds g l = 2 * test_size (test_of l.test.now)

abbrev pub decreases-fails : goal.decreases-fails
decreases-fails g l = 2 * test_size (test_of l.a.now) + 1

abbrev pub decreases-both_hold : goal.decreases-both_hold
decreases-both_hold g l = 2 * test_size (test_of l.a.now) + 2 * test_size (test_of l.b.now) + 1

abbrev pub decreases-one_holds : goal.decreases-one_holds
decreases-one_holds g l = 2 * test_size (test_of l.a.now) + 2 * test_size (test_of l.b.now) + 1
