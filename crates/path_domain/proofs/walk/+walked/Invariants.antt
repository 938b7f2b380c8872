use Rattle.std.proofs.Common.{◌≡◌, ◌+◌, ◌*◌, drop}
use Rattle.fs_lang.specs.Meaning.{program_of, programs_in}
use Rattle.fs_lang.specs.Sizes.{program_size, programs_size}
use Rattle.finite_domain.specs.Matters.{matters_of_steps}
use Rattle.path_domain.specs.Gathered.{gathered_of, gather}
use Rattle.path_domain.proofs.walk.+walked.Given as goal

abbrev pub decreases-walk : goal.decreases-walk
decreases-walk l = 2 * program_size (program_of l.program.now)

abbrev pub decreases-walk_all : goal.decreases-walk_all
decreases-walk_all l = 2 * programs_size (programs_in l.programs.now)

abbrev pub decreases-walk_choice : goal.decreases-walk_choice
decreases-walk_choice l = 2 * program_size (program_of l.e.now) + 2 * program_size (program_of l.f.now) + 1

-- what was found so far with what the others mention
abbrev pub invariant-walk_all-loop-program : goal.invariant-walk_all-loop-program
invariant-walk_all-loop-program l = gather (matters_of_steps (programs_in (drop l.program-index l.programs))) (gathered_of l.found) ≡ gather (matters_of_steps (programs_in l.programs)) (gathered_of l.fn.found)
