use Rattle.std.proofs.Common.{◌≡◌, length, map, nat_lt}
use Rattle.std.specs.Prelude.{if◌then◌else◌, slice_index_or}
use Rattle.fs_interpreter.specs.Meanings.{Grows, Valuation}
use Rattle.fs_semantics.specs.Programs.{Outcome, Id, and_then, run}
use Rattle.fs_lang.specs.Meaning.{program_of}
use Rattle.fs_interpreter.specs.Standing.{StandsFor}
use Rattle.fs_interpreter.specs.States.{AreCells, state_of}
use Rattle.sym_run.specs.Wires.{circuit_meanings}
use Rattle.order_circuit.specs.Codes.{node}
use Rattle.order_circuit.proofs.runs.run_place.Given as goal

-- what the told program makes, where it is one of those so far, and else what was there
abbrev pub invariant-loop-i : goal.invariant-loop-i
invariant-loop-i l = record {
  cells : AreCells (circuit_meanings l.sym) l.made;
  places : length l.made.present ≡ length l.domain.table.paths;
  stands : (v : Valuation) (o : Outcome) → StandsFor l.domain.table (state_of (circuit_meanings l.fn.sym) v l.cells) o
      → StandsFor l.domain.table (state_of (circuit_meanings l.sym) v l.made) (if nat_lt (node l.fn.sym v l.code) l.i then and_then o (run (slice_index_or (map program_of l.programs) (node l.fn.sym v l.code) Id)) else o);
  grows : Grows (circuit_meanings l.fn.sym) (circuit_meanings l.sym);
}
