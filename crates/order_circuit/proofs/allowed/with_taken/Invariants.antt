use Rattle.fs_interpreter.specs.Meanings.{Grows}
use Rattle.order_places.specs.Places.{with_taken}
use Rattle.sym_run.specs.Bitwise.{AreOwnBits, BitsSoFar, bit_at}
use Rattle.sym_run.specs.Wires.{AreWires, circuit_meanings}
use Rattle.order_circuit.specs.Codes.{node}
use Rattle.order_circuit.proofs.allowed.with_taken.Given as goal

abbrev pub invariant-loop-i : goal.invariant-loop-i
invariant-loop-i l = record {
  taken : AreOwnBits (circuit_meanings l.sym) l.taken;
  code : AreWires l.sym l.code;
  more : BitsSoFar (circuit_meanings l.sym) (λ v. with_taken (bit_at (circuit_meanings l.fn.sym) v l.taken) (node l.fn.sym v l.code)) l.i l.more;
  grows : Grows (circuit_meanings l.fn.sym) (circuit_meanings l.sym);
}
