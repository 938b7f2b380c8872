use Rattle.std.proofs.Common.{◌≡◌, length, map, drop}
use Rattle.fs_semantics.specs.Programs.{Outcome, and_then}
use Rattle.fs_semantics.specs.Orders.{outcome}
use Rattle.fs_lang.specs.Meaning.{program_of}
use Rattle.fs_interpreter.specs.Meanings.{plain_meanings}
use Rattle.fs_interpreter.specs.States.{AreCells}
use Rattle.fs_interpreter.specs.Standing.{StandsFor}
use Rattle.fs_replay.specs.Told.{plain_state}
use Rattle.fs_replay.proofs.runs.run_in_order.Given as goal

-- the cells stand for an outcome from which what is left of the order ends as the whole
abbrev pub invariant-loop-i : goal.invariant-loop-i
invariant-loop-i l = record {
  cells : AreCells plain_meanings l.cells;
  places : length l.cells.present ≡ length l.table.paths;
  stands : (o : Outcome) → StandsFor l.table (plain_state l.fn.cells) o
      → (u : Outcome) × StandsFor l.table (plain_state l.cells) u
      × (and_then u (outcome (map program_of l.programs) (drop l.i-index l.order)) ≡ and_then o (outcome (map program_of l.programs) l.order));
}
