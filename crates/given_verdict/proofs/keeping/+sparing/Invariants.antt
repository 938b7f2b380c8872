use Rattle.std.proofs.Common.{map, take}
use Rattle.std.specs.List.{AllByRecursion}
use Rattle.fs_lang.specs.Meaning.{program_of, programs_in}
use Rattle.fs_lang.specs.Sizes.{program_size, programs_size}
use Rattle.given_verdict.specs.Keeping.{Spares}
use Rattle.given_verdict.proofs.keeping.+sparing.Given as goal

abbrev pub decreases-spares : goal.decreases-spares
decreases-spares l = program_size (program_of l.program.now)

abbrev pub decreases-all_spare : goal.decreases-all_spare
decreases-all_spare l = programs_size (programs_in l.programs.now)

-- those so far have none
abbrev pub invariant-all_spare-loop-program : goal.invariant-all_spare-loop-program
invariant-all_spare-loop-program l = AllByRecursion (Spares l.given) (map program_of (take l.program-index l.programs))
