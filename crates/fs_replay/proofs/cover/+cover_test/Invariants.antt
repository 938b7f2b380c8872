use Rattle.std.proofs.Common.{◌+◌, ◌*◌}
use Rattle.fs_lang.specs.Meaning.{test_of}
use Rattle.fs_lang.specs.Sizes.{test_size}
use Rattle.fs_replay.proofs.cover.+cover_test.Given as goal

abbrev pub decreases-cover_test : goal.decreases-cover_test
decreases-cover_test l = 2 * test_size (test_of l.test.now)

abbrev pub decreases-cover_both : goal.decreases-cover_both
decreases-cover_both l = 2 * test_size (test_of l.a.now) + 2 * test_size (test_of l.b.now) + 1
