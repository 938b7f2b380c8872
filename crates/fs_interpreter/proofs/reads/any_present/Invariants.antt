use Rattle.std.proofs.Common.{◌≡◌, drop}
use Rattle.std.specs.Prelude.{◌||◌}
use Rattle.fs_interpreter.specs.Meanings.{Valuation, Grows}
use Rattle.fs_interpreter.specs.States.{AreCells, cell_at}
use Rattle.fs_interpreter.specs.Steps.{any_present}
use Rattle.fs_interpreter.proofs.reads.any_present.Given as goal

-- what was found so far, or is at the rest of the places, is what is at all of them
abbrev pub invariant-loop-i : goal.invariant-loop-i
invariant-loop-i g l =
    let m = g.B.Bits.meanings l.bits in
    let m0 = g.B.Bits.meanings l.fn.bits in
    record {
      owned : m.owns l.any;
      grows : Grows m0 m;
      cells : AreCells m l.cells;
      found : (v : Valuation) → (m.bit v l.any || any_present (drop l.i-index l.places) (cell_at m0 v l.cells)) ≡ any_present l.places (cell_at m0 v l.cells);
    }
