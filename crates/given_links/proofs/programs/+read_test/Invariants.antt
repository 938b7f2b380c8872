use Rattle.std.proofs.Common.{◌+◌, ◌*◌}
use Rattle.fs_lang.specs.Meaning.{test_of}
use Rattle.fs_lang.specs.Sizes.{test_size}
use Rattle.given_links.proofs.programs.+read_test.Given as goal

abbrev pub decreases-read_test : goal.decreases-read_test
decreases-read_test l = 3 * test_size (test_of l.test.now)

abbrev pub decreases-boxed_test : goal.decreases-boxed_test
decreases-boxed_test l = 3 * test_size (test_of l.test.now) + 1

abbrev pub decreases-negation : goal.decreases-negation
decreases-negation l = 3 * test_size (test_of l.a.now) + 2

abbrev pub decreases-conjunction : goal.decreases-conjunction
decreases-conjunction l = 3 * test_size (test_of l.a.now) + 3 * test_size (test_of l.b.now) + 2

abbrev pub decreases-disjunction : goal.decreases-disjunction
decreases-disjunction l = 3 * test_size (test_of l.a.now) + 3 * test_size (test_of l.b.now) + 2
