use Rattle.std.proofs.Common.{◌+◌, ◌*◌}
use Rattle.fs_lang.specs.Meaning.{test_of}
use Rattle.fs_lang.specs.Sizes.{test_size}
use Rattle.tried_trees.proofs.used.+question.Given as goal

abbrev pub decreases-ask : goal.decreases-ask
decreases-ask l = 2 * test_size (test_of l.test.now)

abbrev pub decreases-ask_both : goal.decreases-ask_both
decreases-ask_both l = 2 * test_size (test_of l.a.now) + 2 * test_size (test_of l.b.now) + 1
