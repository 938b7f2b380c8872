use Rattle.std.proofs.Common.{◌≡◌, ℕ, ◌<◌, true, length, map}
use Rattle.bool_circuit.specs.Gates.{wire_value}
use Rattle.fs_semantics.specs.Programs.{Outcome}
use Rattle.fs_semantics.specs.Orders.{IsFree}
use Rattle.fs_lang.specs.Meaning.{program_of}
use Rattle.fs_interpreter.specs.Meanings.{Grows, Valuation}
use Rattle.fs_interpreter.specs.Standing.{StandsFor}
use Rattle.fs_interpreter.specs.States.{state_of}
use Rattle.orders.specs.Relation.{Comes}
use Rattle.sym_run.specs.Wires.{circuit_meanings}
use Rattle.order_circuit.specs.Codes.{node}
use Rattle.order_encode.specs.Forks.{IsFork}
use Rattle.order_encode.specs.Goals.{are_these, EndApartAt}
use Rattle.order_encode.proofs.fork.with_row.Given as goal

-- the pairs up to place k are found
abbrev pub invariant-loop-k : goal.invariant-loop-k
invariant-loop-k l = record {
  wire : l.goal.wire.0 < length l.sym;
  fork : IsFork l.sym l.plan.domain.table l.fork;
  stays : (v : Valuation) → wire_value l.fn.sym v l.fn.goal.wire.0 ≡ true → wire_value l.sym v l.goal.wire.0 ≡ true;
  found : (v : Valuation) (o : Outcome) → StandsFor l.plan.domain.table (state_of (circuit_meanings l.fn.sym) v l.fork.cells.now) o → (n : ℕ) → l.i < n → n < l.k → IsFree (Comes l.plan.order) l.i n
      → are_these l.i n (node l.fn.sym v l.fork.first.now) (node l.fn.sym v l.fork.second.now) ≡ true → EndApartAt (map program_of l.plan.programs) o l.i n → wire_value l.sym v l.goal.wire.0 ≡ true;
  grows : Grows (circuit_meanings l.fn.sym) (circuit_meanings l.sym);
}
