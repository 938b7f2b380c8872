use Rattle.fs_interpreter.specs.Meanings.{Grows, IsBit}
use Rattle.fs_interpreter.specs.States.{AreCells, cell_at}
use Rattle.sym_run.specs.Alike.{same_cells}
use Rattle.sym_run.specs.Wires.{circuit_meanings}
use Rattle.sym_run.proofs.comparison.same_cells.Given as goal

-- the cells of the places so far tell the same
abbrev pub invariant-loop-i : goal.invariant-loop-i
invariant-loop-i l = record {
  a : AreCells (circuit_meanings l.sym) l.a;
  b : AreCells (circuit_meanings l.sym) l.b;
  all : IsBit (circuit_meanings l.sym) (λ v. same_cells (cell_at (circuit_meanings l.fn.sym) v l.a) (cell_at (circuit_meanings l.fn.sym) v l.b) l.i) l.all;
  grows : Grows (circuit_meanings l.fn.sym) (circuit_meanings l.sym);
}
