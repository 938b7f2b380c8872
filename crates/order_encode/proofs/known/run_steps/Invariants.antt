use Rattle.std.proofs.Common.{◌≡◌, length, map, drop}
use Rattle.fs_interpreter.specs.Meanings.{Grows, Valuation}
use Rattle.fs_semantics.specs.Programs.{Outcome, and_then}
use Rattle.fs_semantics.specs.Orders.{outcome}
use Rattle.fs_lang.specs.Meaning.{program_of}
use Rattle.fs_interpreter.specs.Standing.{StandsFor}
use Rattle.fs_interpreter.specs.States.{AreCells, state_of}
use Rattle.sym_run.specs.Wires.{circuit_meanings}
use Rattle.order_encode.proofs.known.run_steps.Given as goal

-- the cells stand for an outcome from which what is left of the order ends as the whole
abbrev pub invariant-loop-i : goal.invariant-loop-i
invariant-loop-i l = record {
  cells : AreCells (circuit_meanings l.sym) l.cells;
  places : length l.cells.present ≡ length l.domain.table.paths;
  stands : (v : Valuation) (o : Outcome) → StandsFor l.domain.table (state_of (circuit_meanings l.fn.sym) v l.fn.cells) o
      → (u : Outcome) × StandsFor l.domain.table (state_of (circuit_meanings l.sym) v l.cells) u
      × (and_then u (outcome (map program_of l.programs) (drop l.i-index l.order)) ≡ and_then o (outcome (map program_of l.programs) l.order));
  grows : Grows (circuit_meanings l.fn.sym) (circuit_meanings l.sym);
}
