use Rattle.fs_interpreter.specs.Meanings.{Grows, IsBit}
use Rattle.orders.specs.Relation.{comes}
use Rattle.sym_run.specs.Bitwise.{AreOwnBits, bit_at}
use Rattle.sym_run.specs.Wires.{AreWires, circuit_meanings}
use Rattle.order_circuit.specs.Codes.{node, all_stand}
use Rattle.order_circuit.proofs.allowed.all_stand.Given as goal

abbrev pub invariant-loop-i : goal.invariant-loop-i
invariant-loop-i l = record {
  taken : AreOwnBits (circuit_meanings l.sym) l.taken;
  code : AreWires l.sym l.code;
  all : IsBit (circuit_meanings l.sym) (λ v. all_stand (comes l.order) l.order.count (bit_at (circuit_meanings l.fn.sym) v l.taken) (node l.fn.sym v l.code) l.i) l.all;
  grows : Grows (circuit_meanings l.fn.sym) (circuit_meanings l.sym);
}
