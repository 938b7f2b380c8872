use Rattle.std.proofs.Common.{◌≡◌, length, drop, ◌++◌}
use Rattle.fs_interpreter.specs.Meanings.{Valuation, Grows}
use Rattle.fs_interpreter.specs.States.{AreCells, cell_at}
use Rattle.fs_interpreter.specs.Asides.{kept_told, read_at, AreOwn}
use Rattle.fs_interpreter.proofs.branch.copy_all.Given as goal

-- what was copied so far, and what is left to be, is what stands at the places
abbrev pub invariant-loop-i : goal.invariant-loop-i
invariant-loop-i g l =
    let m = g.B.Bits.meanings l.bits in
    let m0 = g.B.Bits.meanings l.fn.bits in
    record {
      grows : Grows m0 m;
      cells : AreCells m l.fn.cells;
      own : AreOwn m (length l.fn.cells.present) l.kept.items;
      told : (v : Valuation) → kept_told m v l.kept.items ++ read_at (drop l.i-index l.places) (cell_at m0 v l.fn.cells) ≡ read_at l.places (cell_at m0 v l.fn.cells);
    }
