use Rattle.std.proofs.Common.{◌+◌, ◌*◌}
use Rattle.fs_lang.specs.Meaning.{test_of}
use Rattle.fs_lang.specs.Sizes.{test_size}
use Rattle.commuting_parts.proofs.left.+left.Given as goal

abbrev pub decreases-leaves_test : goal.decreases-leaves_test
decreases-leaves_test l = 3 * test_size (test_of l.test.now)

abbrev pub decreases-leaves_both : goal.decreases-leaves_both
decreases-leaves_both l = 3 * test_size (test_of l.a.now) + 3 * test_size (test_of l.b.now) + 1
