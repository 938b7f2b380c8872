use Rattle.std.proofs.Common.{◌+◌, ◌*◌}
use Rattle.fs_lang.specs.Meaning.{test_of}
use Rattle.fs_lang.specs.Sizes.{test_size}
use Rattle.commuting_parts.proofs.same.+tests.Given as goal

abbrev pub decreases-same_test : goal.decreases-same_test
decreases-same_test l = 3 * test_size (test_of l.a.now)

abbrev pub decreases-same_tests : goal.decreases-same_tests
decreases-same_tests l = 3 * test_size (test_of l.a.now) + 3 * test_size (test_of l.b.now) + 1
