use Rattle.std.proofs.Common.{◌+◌, ◌*◌}
use Rattle.fs_lang.specs.Meaning.{program_of, programs_in}
use Rattle.fs_lang.specs.Sizes.{program_size, programs_size}
use Rattle.failure_search.proofs.find.+find.Given as goal

abbrev pub decreases-find : goal.decreases-find
decreases-find l = 3 * program_size (program_of l.program.now)

abbrev pub decreases-find_in_steps : goal.decreases-find_in_steps
decreases-find_in_steps l = 3 * programs_size (programs_in l.steps.now)

abbrev pub decreases-find_in_branch : goal.decreases-find_in_branch
decreases-find_in_branch l = 3 * program_size (program_of l.first.now) + 3 * program_size (program_of l.second.now) + 1
