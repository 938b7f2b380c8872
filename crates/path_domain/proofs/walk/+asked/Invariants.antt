use Rattle.std.proofs.Common.{◌+◌, ◌*◌}
use Rattle.fs_lang.specs.Meaning.{test_of}
use Rattle.fs_lang.specs.Sizes.{test_size}
use Rattle.path_domain.proofs.walk.+asked.Given as goal

abbrev pub decreases-walk_test : goal.decreases-walk_test
decreases-walk_test l = 2 * test_size (test_of l.test.now)

abbrev pub decreases-walk_both : goal.decreases-walk_both
decreases-walk_both l = 2 * test_size (test_of l.a.now) + 2 * test_size (test_of l.b.now) + 1
