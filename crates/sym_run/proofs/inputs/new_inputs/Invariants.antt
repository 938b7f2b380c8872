use Rattle.std.proofs.Common.{◌≡◌, ◌+◌, length}
use Rattle.bool_circuit.specs.Gates.{Grows, input_count}
use Rattle.sym_run.specs.Inputs.{AreInputs}
use Rattle.sym_run.proofs.inputs.new_inputs.Given as goal

abbrev pub invariant-loop-turn : goal.invariant-loop-turn
invariant-loop-turn l = record {
  long : length l.wires ≡ l._turn;
  inputs : AreInputs l.sym (input_count l.fn.sym) l.wires;
  count : input_count l.sym ≡ input_count l.fn.sym + l._turn;
  grows : Grows l.fn.sym l.sym;
}
