use Rattle.std.proofs.Common.{◌≡◌, length, drop}
use Rattle.fs_interpreter.specs.Meanings.{Valuation, Grows}
use Rattle.fs_interpreter.specs.States.{AreCells, cell_at}
use Rattle.fs_interpreter.specs.Asides.{kept_told, put_where}
use Rattle.fs_interpreter.proofs.branch.choose_all.Given as goal

-- what was chosen so far, with the choices that are left, is the whole choice
abbrev pub invariant-loop-one : goal.invariant-loop-one
invariant-loop-one g l =
    let m = g.B.Bits.meanings l.bits in
    let m0 = g.B.Bits.meanings l.fn.bits in
    record {
      grows : Grows m0 m;
      cells : AreCells m l.cells;
      places : length l.cells.present ≡ length l.fn.cells.present;
      told : (v : Valuation) → put_where (m0.bit v l.c) (kept_told m0 v (drop l.one-index l.kept)) (cell_at m v l.cells) ≡ put_where (m0.bit v l.c) (kept_told m0 v l.kept) (cell_at m0 v l.fn.cells);
      error : (v : Valuation) → m.bit v l.cells.error ≡ m0.bit v l.fn.cells.error;
    }
