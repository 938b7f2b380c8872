use Rattle.std.proofs.Common.{false}
use Rattle.fs_interpreter.specs.Meanings.{Grows}
use Rattle.sym_run.specs.Bitwise.{BitsSoFar}
use Rattle.sym_run.specs.Wires.{circuit_meanings}
use Rattle.order_circuit.proofs.allowed.none_taken.Given as goal

abbrev pub invariant-loop-turn : goal.invariant-loop-turn
invariant-loop-turn l = record {
  taken : BitsSoFar (circuit_meanings l.sym) (λ v i. false) l._turn l.taken;
  grows : Grows (circuit_meanings l.fn.sym) (circuit_meanings l.sym);
}
