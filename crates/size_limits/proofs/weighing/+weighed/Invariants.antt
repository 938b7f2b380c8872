use Rattle.std.proofs.Common.{◌≡◌, ◌+◌, ◌-◌, ◌*◌, ◌^◌, ◌≤◌, drop}
use Rattle.fs_lang.specs.Meaning.{program_of, programs_in}
use Rattle.fs_lang.specs.Sizes.{program_size, programs_size}
use Rattle.size_limits.specs.Weights.{steps_work, capped, count_in}
use Rattle.size_limits.proofs.weighing.+weighed.Given as goal

abbrev pub decreases-weigh : goal.decreases-weigh
decreases-weigh l = 2 * program_size (program_of l.program.now)

abbrev pub decreases-weigh_all : goal.decreases-weigh_all
decreases-weigh_all l = 2 * programs_size (programs_in l.programs.now)

abbrev pub decreases-weigh_choice : goal.decreases-weigh_choice
decreases-weigh_choice l = 2 * program_size (program_of l.e.now) + 2 * program_size (program_of l.f.now) + 1

-- the sum so far with the work of the others
abbrev pub invariant-weigh_all-loop-program : goal.invariant-weigh_all-loop-program
invariant-weigh_all-loop-program l = record {
  is : capped (l.total + steps_work (count_in l.counts) (programs_in (drop l.program-index l.programs))) ≡ capped (l.fn.sum + steps_work (count_in l.counts) (programs_in l.programs));
  fits : l.total ≤ 2 ^ 64 - 1;
}
