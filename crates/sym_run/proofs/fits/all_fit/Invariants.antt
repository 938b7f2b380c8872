use Rattle.fs_interpreter.specs.Meanings.{Grows, IsBit}
use Rattle.fs_interpreter.specs.States.{AreCells, cell_at}
use Rattle.sym_run.specs.Fitting.{all_fit}
use Rattle.sym_run.specs.Wires.{circuit_meanings}
use Rattle.sym_run.proofs.fits.all_fit.Given as goal

-- the cells of the places so far fit
abbrev pub invariant-loop-i : goal.invariant-loop-i
invariant-loop-i l = record {
  cells : AreCells (circuit_meanings l.sym) l.cells;
  all : IsBit (circuit_meanings l.sym) (λ v. all_fit l.table (cell_at (circuit_meanings l.fn.sym) v l.cells) l.i) l.all;
  grows : Grows (circuit_meanings l.fn.sym) (circuit_meanings l.sym);
}
