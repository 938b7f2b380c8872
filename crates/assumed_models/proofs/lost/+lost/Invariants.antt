use Rattle.std.proofs.Common.{◌≡◌, ◌++◌, ◌+◌, ◌*◌, map}
use Rattle.std.specs.List.{flat_map}
use Rattle.fs_lang.specs.Meaning.{program_of, programs_in}
use Rattle.fs_lang.specs.Sizes.{program_size, programs_size}
use Rattle.assumed_models.specs.Edits.{edits_beside, marks_of}
use Rattle.assumed_models.specs.LostEdits.{lost_steps}
use Rattle.assumed_models.proofs.lost.+lost.Given as goal

abbrev pub decreases-inside : goal.decreases-inside
decreases-inside l = 4 * program_size (program_of l.program)

abbrev pub decreases-push_lost : goal.decreases-push_lost
decreases-push_lost l = 4 * program_size (program_of l.program) + 1

abbrev pub decreases-with_lost : goal.decreases-with_lost
decreases-with_lost l = 4 * program_size (program_of l.program) + 2

abbrev pub decreases-all_inside : goal.decreases-all_inside
decreases-all_inside l = 4 * programs_size (programs_in l.programs)

abbrev pub decreases-branches : goal.decreases-branches
decreases-branches l = 4 * program_size (program_of l.e) + 4 * program_size (program_of l.f) + 3

-- the steps so far
abbrev pub invariant-all_inside-loop-program : goal.invariant-all_inside-loop-program
invariant-all_inside-loop-program l =
    (goal.iterator-all_inside-loop-program).can_next l.program-iterator
    × (goal.iterator-all_inside-loop-program).is_finite l.program-iterator
    × (l.fn.programs ≡ l.yielded ++ l.program-iterator.rest.items)
    × (map program_of l.steps ≡ flat_map (lost_steps (marks_of (edits_beside l.place l.edits))) (map program_of l.yielded))
