use Rattle.std.proofs.Common.{◌≡◌, length}
use Rattle.fs_interpreter.specs.Meanings.{Valuation}
use Rattle.fs_interpreter.specs.States.{AreCells, cell_at}
use Rattle.fs_interpreter.specs.Asides.{kept_told, put_back, AreOwn}
use Rattle.fs_interpreter.proofs.branch.restore.Given as goal

abbrev pub decreases-loop-one : goal.decreases-loop-one
decreases-loop-one g l = length l.kept.items

-- what was put back so far, with what is left to be, is all of it put back
abbrev pub invariant-loop-one : goal.invariant-loop-one
invariant-loop-one g l =
    let m = g.B.Bits.meanings l.bits in
    record {
      cells : AreCells m l.cells;
      places : length l.cells.present ≡ length l.fn.cells.present;
      own : AreOwn m (length l.fn.cells.present) l.kept.items;
      told : (v : Valuation) → put_back (kept_told m v l.kept.items) (cell_at m v l.cells) ≡ put_back (kept_told m v l.fn.aside.cells.items) (cell_at m v l.fn.cells);
      error : l.error ≡ l.fn.aside.error;
    }
