use Rattle.std.proofs.Common.{◌≡◌, ℕ, ◌<◌, true, length, map}
use Rattle.bool_circuit.specs.Gates.{wire_value}
use Rattle.fs_semantics.specs.Programs.{Outcome}
use Rattle.fs_semantics.specs.Orders.{IsFree}
use Rattle.fs_lang.specs.Meaning.{program_of}
use Rattle.fs_interpreter.specs.Meanings.{Grows, Valuation}
use Rattle.fs_interpreter.specs.Standing.{StandsFor}
use Rattle.fs_interpreter.specs.States.{state_of}
use Rattle.orders.specs.Relation.{Comes}
use Rattle.sym_run.specs.Wires.{circuit_meanings}
use Rattle.order_circuit.specs.Codes.{node}
use Rattle.order_encode.specs.Forks.{IsFork}
use Rattle.order_encode.specs.Goals.{are_these, EndApartAt}
use Rattle.order_encode.proofs.fork.some_pair_differs.Given as goal

-- the pairs of the nodes below i with later ones are found
abbrev pub invariant-loop-i : goal.invariant-loop-i
invariant-loop-i l = record {
  wire : l.goal.wire.0 < length l.sym;
  fork : IsFork l.sym l.plan.domain.table l.fork;
  found : (v : Valuation) (o : Outcome) → StandsFor l.plan.domain.table (state_of (circuit_meanings l.fn.sym) v l.fork.cells.now) o → (m n : ℕ) → m < l.i → m < n → n < l.plan.order.count → IsFree (Comes l.plan.order) m n
      → are_these m n (node l.fn.sym v l.fork.first.now) (node l.fn.sym v l.fork.second.now) ≡ true → EndApartAt (map program_of l.plan.programs) o m n → wire_value l.sym v l.goal.wire.0 ≡ true;
  grows : Grows (circuit_meanings l.fn.sym) (circuit_meanings l.sym);
}
