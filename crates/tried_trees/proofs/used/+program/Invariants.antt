use Rattle.std.proofs.Common.{◌+◌, ◌*◌}
use Rattle.fs_lang.specs.Meaning.{program_of, programs_in}
use Rattle.fs_lang.specs.Sizes.{program_size, programs_size}
use Rattle.tried_trees.proofs.used.+program.Given as goal

abbrev pub decreases-use_one : goal.decreases-use_one
decreases-use_one l = 2 * program_size (program_of l.program.now)

abbrev pub decreases-use_all : goal.decreases-use_all
decreases-use_all l = 2 * programs_size (programs_in l.programs.now)

abbrev pub decreases-use_choice : goal.decreases-use_choice
decreases-use_choice l = 2 * program_size (program_of l.e.now) + 2 * program_size (program_of l.f.now) + 1
