use Rattle.std.proofs.Common.{◌≡◌, ◌+◌, ◌*◌, drop}
use Rattle.fs_lang.specs.Meaning.{program_of, programs_in}
use Rattle.fs_lang.specs.Sizes.{program_size, programs_size}
use Rattle.effect_sets.specs.Footprints.{joined, sure_after_steps, steps_footprint}
use Rattle.effect_sets.specs.Members.{members}
use Rattle.effect_sets.specs.Telling.{found_footprint}
use Rattle.effect_sets.proofs.walk.+walked.Given as goal

abbrev pub decreases-walk : goal.decreases-walk
decreases-walk l = 4 * program_size (program_of l.program.now)

abbrev pub decreases-walk_all : goal.decreases-walk_all
decreases-walk_all l = 4 * programs_size (programs_in l.programs.now)

abbrev pub decreases-walk_choice : goal.decreases-walk_choice
decreases-walk_choice l = 4 * program_size (program_of l.e.now) + 4 * program_size (program_of l.f.now) + 3

abbrev pub decreases-walk_branches : goal.decreases-walk_branches
decreases-walk_branches l = 4 * program_size (program_of l.e.now) + 4 * program_size (program_of l.f.now) + 2

abbrev pub decreases-walk_apart : goal.decreases-walk_apart
decreases-walk_apart l = 4 * program_size (program_of l.e.now) + 4 * program_size (program_of l.f.now) + 1

-- what was found so far with what the others add, and the paths that are sure behind them
abbrev pub invariant-walk_all-loop-program : goal.invariant-walk_all-loop-program
invariant-walk_all-loop-program l = record {
  footprint : joined (found_footprint l.found) (steps_footprint (programs_in (drop l.program-index l.programs)) (members l.sure)) ≡ joined (found_footprint l.fn.found) (steps_footprint (programs_in l.programs) (members l.fn.sure));
  sure : sure_after_steps (programs_in (drop l.program-index l.programs)) (members l.sure) ≡ sure_after_steps (programs_in l.programs) (members l.fn.sure);
}
