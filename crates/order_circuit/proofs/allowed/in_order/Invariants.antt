use Rattle.std.proofs.Common.{◌≡◌, ◌<◌, false, length, drop}
use Rattle.std.specs.Prelude.{◌&&◌}
use Rattle.bool_circuit.specs.Gates.{wire_value}
use Rattle.fs_interpreter.specs.Meanings.{Grows, Valuation}
use Rattle.orders.specs.Relation.{comes}
use Rattle.order_places.specs.Places.{may_follow}
use Rattle.sym_run.specs.Bitwise.{AreOwnBits, bit_at}
use Rattle.sym_run.specs.Wires.{circuit_meanings}
use Rattle.order_circuit.specs.Codes.{nodes}
use Rattle.order_circuit.proofs.allowed.in_order.Given as goal

-- what was asked so far, and that the rest may follow, is that all may follow
abbrev pub invariant-loop-code : goal.invariant-loop-code
invariant-loop-code l = record {
  taken : AreOwnBits (circuit_meanings l.sym) l.taken;
  long : length l.taken ≡ l.order.count;
  wire : l.all.0 < length l.sym;
  all : (v : Valuation) → (wire_value l.sym v l.all.0 && may_follow (comes l.order) l.order.count (bit_at (circuit_meanings l.sym) v l.taken) (nodes l.fn.sym v (drop l.code-index l.codes))) ≡ may_follow (comes l.order) l.order.count (λ k. false) (nodes l.fn.sym v l.codes);
  grows : Grows (circuit_meanings l.fn.sym) (circuit_meanings l.sym);
}
