use Rattle.std.proofs.Common.{◌+◌, ◌*◌}
use Rattle.fs_lang.specs.Meaning.{test_of}
use Rattle.fs_lang.specs.Sizes.{test_size}
use Rattle.tree_text.proofs.printing.+test_words.Given as goal

abbrev pub decreases-put_test : goal.decreases-put_test
decreases-put_test l = 3 * test_size (test_of l.test.now)

abbrev pub decreases-negated : goal.decreases-negated
decreases-negated l = 3 * test_size (test_of l.a.now) + 1

abbrev pub decreases-joined : goal.decreases-joined
decreases-joined l = 3 * test_size (test_of l.a.now) + 3 * test_size (test_of l.b.now) + 1
