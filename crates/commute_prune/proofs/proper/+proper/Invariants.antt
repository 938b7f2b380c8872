use Rattle.std.proofs.Common.{◌+◌, ◌*◌, drop}
use Rattle.fs_semantics.specs.Changes.{AreProperSteps}
use Rattle.fs_lang.specs.Meaning.{program_of, programs_in}
use Rattle.fs_lang.specs.Sizes.{program_size, programs_size}
use Rattle.commute_prune.proofs.proper.+proper.Given as goal

abbrev pub decreases-is_proper : goal.decreases-is_proper
decreases-is_proper l = 2 * program_size (program_of l.program.now)

abbrev pub decreases-are_proper_steps : goal.decreases-are_proper_steps
decreases-are_proper_steps l = 2 * programs_size (programs_in l.programs.now)

abbrev pub decreases-both_are_proper : goal.decreases-both_are_proper
decreases-both_are_proper l = 2 * program_size (program_of l.e.now) + 2 * program_size (program_of l.f.now) + 1

-- where those that follow are proper, all are
abbrev pub invariant-are_proper_steps-loop-program : goal.invariant-are_proper_steps-loop-program
invariant-are_proper_steps-loop-program l = AreProperSteps (programs_in (drop l.program-index l.programs)) → AreProperSteps (programs_in l.programs)
