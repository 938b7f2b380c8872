use Rattle.std.proofs.Common.{◌≡◌, ◌<◌, true, length, map}
use Rattle.std.specs.Prelude.{◌↔◌}
use Rattle.bool_circuit.specs.Gates.{wire_value}
use Rattle.fs_semantics.specs.Programs.{Outcome}
use Rattle.fs_lang.specs.Meaning.{program_of}
use Rattle.fs_interpreter.specs.Meanings.{Grows, Valuation}
use Rattle.fs_interpreter.specs.Standing.{StandsFor}
use Rattle.fs_interpreter.specs.States.{AreCells, state_of}
use Rattle.sym_run.specs.Wires.{circuit_meanings}
use Rattle.order_encode.specs.Goals.{ApartBelow}
use Rattle.order_encode.proofs.pairs.some_apart.Given as goal

-- the rows of the nodes below i are looked at
abbrev pub invariant-loop-i : goal.invariant-loop-i
invariant-loop-i l = record {
  wire : l.goal.wire.0 < length l.sym;
  cells : AreCells (circuit_meanings l.sym) l.start;
  exact : (v : Valuation) (o : Outcome) → StandsFor l.plan.domain.table (state_of (circuit_meanings l.fn.sym) v l.start) o
      → (wire_value l.sym v l.goal.wire.0 ≡ true) ↔ ApartBelow (map program_of l.plan.programs) l.plan.order o l.i;
  grows : Grows (circuit_meanings l.fn.sym) (circuit_meanings l.sym);
}
