use Rattle.std.proofs.Common.{◌≡◌, ◌+◌, ◌*◌, drop}
use Rattle.fs_lang.specs.Meaning.{program_of, programs_in}
use Rattle.fs_lang.specs.Sizes.{program_size, programs_size}
use Rattle.effect_sets.specs.Footprints.{sure_after_steps}
use Rattle.effect_sets.specs.Members.{members}
use Rattle.effect_sets.proofs.keeping.+kept.Given as goal

abbrev pub decreases-keeps : goal.decreases-keeps
decreases-keeps l = 2 * program_size (program_of l.program.now)

abbrev pub decreases-all_keep : goal.decreases-all_keep
decreases-all_keep l = 2 * programs_size (programs_in l.programs.now)

abbrev pub decreases-choice_keeps : goal.decreases-choice_keeps
decreases-choice_keeps l = 2 * program_size (program_of l.e.now) + 2 * program_size (program_of l.f.now) + 1

-- where the others keep them, all do
abbrev pub invariant-all_keep-loop-program : goal.invariant-all_keep-loop-program
invariant-all_keep-loop-program l =
    sure_after_steps (programs_in l.programs) (members l.sure) ≡ sure_after_steps (programs_in (drop l.program-index l.programs)) (members l.sure)
