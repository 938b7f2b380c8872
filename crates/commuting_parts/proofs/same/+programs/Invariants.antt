use Rattle.std.proofs.Common.{◌≡◌, ◌+◌, ◌*◌, ◌≤◌, length}
use Rattle.fs_lang.specs.Meaning.{program_of, programs_in}
use Rattle.fs_lang.specs.Sizes.{program_size, programs_size}
use Rattle.commuting_parts.proofs.same.+programs.Given as goal

abbrev pub decreases-same_program : goal.decreases-same_program
decreases-same_program l = 3 * program_size (program_of l.e.now)

abbrev pub decreases-same_steps : goal.decreases-same_steps
decreases-same_steps l = 3 * programs_size (programs_in l.es.now)

abbrev pub decreases-same_choice : goal.decreases-same_choice
decreases-same_choice l = 3 * program_size (program_of l.a.now) + 3 * program_size (program_of l.b.now) + 1

-- where those that follow are the same, all are
abbrev pub invariant-same_steps-loop-e : goal.invariant-same_steps-loop-e
invariant-same_steps-loop-e l = record {
  same : programs_in l.left ≡ programs_in l.right → programs_in l.es ≡ programs_in l.fs;
  within : programs_size (programs_in l.left) ≤ programs_size (programs_in l.es);
}

abbrev pub decreases-same_steps-loop-e : goal.decreases-same_steps-loop-e
decreases-same_steps-loop-e l = length l.left
