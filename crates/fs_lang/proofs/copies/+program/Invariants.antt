use Rattle.std.proofs.Common.{◌≡◌, ◌+◌, ◌*◌, take}
use Rattle.fs_lang.specs.Meaning.{program_of, programs_in}
use Rattle.fs_lang.specs.Sizes.{program_size, programs_size}
use Rattle.fs_lang.proofs.copies.+program.Given as goal

abbrev pub decreases-copy_program : goal.decreases-copy_program
decreases-copy_program l = 3 * program_size (program_of l.program.now)

abbrev pub decreases-boxed_program : goal.decreases-boxed_program
decreases-boxed_program l = 3 * program_size (program_of l.program.now) + 1

abbrev pub decreases-copy_steps : goal.decreases-copy_steps
decreases-copy_steps l = 3 * programs_size (programs_in l.programs.now)

abbrev pub decreases-choice : goal.decreases-choice
decreases-choice l = 3 * program_size (program_of l.e.now) + 3 * program_size (program_of l.f.now) + 2

-- the copies so far
abbrev pub invariant-copy_steps-loop-program : goal.invariant-copy_steps-loop-program
invariant-copy_steps-loop-program l = l.copies ≡ take l.program-index l.programs
