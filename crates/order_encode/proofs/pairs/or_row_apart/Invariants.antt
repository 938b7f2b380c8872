use Rattle.std.proofs.Common.{◌≡◌, ◌⊎◌, ◌<◌, true, length, map}
use Rattle.std.specs.Prelude.{◌↔◌}
use Rattle.bool_circuit.specs.Gates.{wire_value}
use Rattle.fs_semantics.specs.Programs.{Outcome}
use Rattle.fs_lang.specs.Meaning.{program_of}
use Rattle.fs_interpreter.specs.Meanings.{Grows, Valuation}
use Rattle.fs_interpreter.specs.Standing.{StandsFor}
use Rattle.fs_interpreter.specs.States.{AreCells, state_of}
use Rattle.sym_run.specs.Wires.{circuit_meanings}
use Rattle.order_encode.specs.Goals.{ApartBehind}
use Rattle.order_encode.proofs.pairs.or_row_apart.Given as goal

-- the nodes up to place k are looked at
abbrev pub invariant-loop-k : goal.invariant-loop-k
invariant-loop-k l = record {
  wire : l.goal.wire.0 < length l.sym;
  less : l.i < l.k;
  cells : AreCells (circuit_meanings l.sym) l.start;
  exact : (v : Valuation) (o : Outcome) → StandsFor l.plan.domain.table (state_of (circuit_meanings l.fn.sym) v l.start) o
      → (wire_value l.sym v l.goal.wire.0 ≡ true) ↔ ((wire_value l.fn.sym v l.fn.goal.wire.0 ≡ true) ⊎ ApartBehind (map program_of l.plan.programs) l.plan.order o l.i l.k);
  grows : Grows (circuit_meanings l.fn.sym) (circuit_meanings l.sym);
}
