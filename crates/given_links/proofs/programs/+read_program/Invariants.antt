use Rattle.std.proofs.Common.{◌≡◌, ◌+◌, ◌*◌, map, take}
use Rattle.fs_lang.specs.Meaning.{program_of, programs_in}
use Rattle.fs_lang.specs.Sizes.{program_size, programs_size}
use Rattle.given_links.specs.Reading.{program_read_as}
use Rattle.given_links.proofs.programs.+read_program.Given as goal

abbrev pub decreases-read_program : goal.decreases-read_program
decreases-read_program l = 3 * program_size (program_of l.program.now)

abbrev pub decreases-boxed_program : goal.decreases-boxed_program
decreases-boxed_program l = 3 * program_size (program_of l.program.now) + 1

abbrev pub decreases-read_programs : goal.decreases-read_programs
decreases-read_programs l = 3 * programs_size (programs_in l.programs.now)

abbrev pub decreases-choice : goal.decreases-choice
decreases-choice l = 3 * program_size (program_of l.e.now) + 3 * program_size (program_of l.f.now) + 2

-- what was read so far
abbrev pub invariant-read_programs-loop-program : goal.invariant-read_programs-loop-program
invariant-read_programs-loop-program l = map program_of l.read ≡ map (program_read_as l.links) (map program_of (take l.program-index l.programs))
