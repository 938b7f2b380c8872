use Rattle.std.proofs.Common.{◌≡◌, ◌+◌, ◌*◌, length, drop}
use Rattle.fs_lang.specs.Meaning.{program_of, programs_in}
use Rattle.fs_interpreter.specs.Meanings.{Valuation, Grows}
use Rattle.fs_interpreter.specs.States.{AreCells, state_of}
use Rattle.fs_interpreter.specs.Steps.{all_stepped}
use Rattle.fs_lang.specs.Sizes.{program_size, programs_size}
use Rattle.fs_interpreter.proofs.run.+run.Given as goal

abbrev pub decreases-step : goal.decreases-step
decreases-step g l = 3 * program_size (program_of l.program.now)

abbrev pub decreases-step_all : goal.decreases-step_all
decreases-step_all g l = 3 * programs_size (programs_in l.programs.now)

abbrev pub decreases-branch : goal.decreases-branch
decreases-branch g l = 3 * program_size (program_of l.e.now) + 3 * program_size (program_of l.f.now) + 2

abbrev pub decreases-try_branch : goal.decreases-try_branch
decreases-try_branch g l = 3 * program_size (program_of l.e.now) + 1

-- what was run so far, with what is left to run, is all of it
abbrev pub invariant-step_all-loop-program : goal.invariant-step_all-loop-program
invariant-step_all-loop-program g l =
    let m = g.B.Bits.meanings l.bits in
    let m0 = g.B.Bits.meanings l.fn.bits in
    record {
      grows : Grows m0 m;
      cells : AreCells m l.cells;
      places : length l.cells.present ≡ length l.fn.cells.present;
      told : (v : Valuation) → all_stepped l.table (programs_in (drop l.program-index l.programs)) (state_of m v l.cells) ≡ all_stepped l.table (programs_in l.programs) (state_of m0 v l.fn.cells);
    }
