use Rattle.fs_interpreter.specs.Meanings.{Grows, IsBit}
use Rattle.orders.specs.Relation.{comes}
use Rattle.order_places.specs.Places.{all_taken}
use Rattle.sym_run.specs.Bitwise.{AreOwnBits, bit_at}
use Rattle.sym_run.specs.Wires.{circuit_meanings}
use Rattle.order_circuit.proofs.allowed.all_taken.Given as goal

abbrev pub invariant-loop-a : goal.invariant-loop-a
invariant-loop-a l = record {
  taken : AreOwnBits (circuit_meanings l.sym) l.taken;
  all : IsBit (circuit_meanings l.sym) (λ v. all_taken (comes l.order) (bit_at (circuit_meanings l.fn.sym) v l.taken) l.i l.a) l.all;
  grows : Grows (circuit_meanings l.fn.sym) (circuit_meanings l.sym);
}
