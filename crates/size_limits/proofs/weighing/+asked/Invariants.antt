use Rattle.std.proofs.Common.{◌+◌, ◌*◌}
use Rattle.fs_lang.specs.Meaning.{test_of}
use Rattle.fs_lang.specs.Sizes.{test_size}
use Rattle.size_limits.proofs.weighing.+asked.Given as goal

abbrev pub decreases-weigh_test : goal.decreases-weigh_test
decreases-weigh_test l = 2 * test_size (test_of l.test.now)

abbrev pub decreases-weigh_both : goal.decreases-weigh_both
decreases-weigh_both l = 2 * test_size (test_of l.a.now) + 2 * test_size (test_of l.b.now) + 1
