use Rattle.std.proofs.Common.{◌+◌, ◌*◌, drop}
use Rattle.fs_lang.specs.Meaning.{program_of, programs_in}
use Rattle.fs_lang.specs.Sizes.{program_size, programs_size}
use Rattle.fs_interpreter.specs.Places.{Listed, Keeps, CoversSteps}
use Rattle.fs_replay.proofs.cover.+cover.Given as goal

abbrev pub decreases-cover : goal.decreases-cover
decreases-cover l = 3 * program_size (program_of l.program.now)

abbrev pub decreases-cover_all : goal.decreases-cover_all
decreases-cover_all l = 3 * programs_size (programs_in l.programs.now)

abbrev pub decreases-cover_branches : goal.decreases-cover_branches
decreases-cover_branches l = 3 * program_size (program_of l.e.now) + 3 * program_size (program_of l.f.now) + 1

-- where what is left is covered too, all is
abbrev pub invariant-cover_all-loop-program : goal.invariant-cover_all-loop-program
invariant-cover_all-loop-program l = record {
  keeps : Keeps l.fn.table l.table;
  covers : (t : Listed) → Keeps l.table t → CoversSteps t (programs_in (drop l.program-index l.programs)) → CoversSteps t (programs_in l.programs);
}
