use Rattle.std.proofs.Common.{◌+◌, ◌*◌}
use Rattle.fs_lang.specs.Meaning.{test_of}
use Rattle.fs_lang.specs.Sizes.{test_size}
use Rattle.effect_sets.proofs.looking.+looked.Given as goal

abbrev pub decreases-look_for : goal.decreases-look_for
decreases-look_for l = 2 * test_size (test_of l.test.now)

abbrev pub decreases-look_for_both : goal.decreases-look_for_both
decreases-look_for_both l = 2 * test_size (test_of l.a.now) + 2 * test_size (test_of l.b.now) + 1
