use Rattle.std.proofs.Common.{◌≡◌, ◌+◌, ◌*◌, length}
use Rattle.bool_circuit.specs.Gates.{Grows, input_count}
use Rattle.sym_run.specs.Inputs.{AreInputRows}
use Rattle.sym_run.proofs.inputs.new_rows.Given as goal

abbrev pub invariant-loop-turn : goal.invariant-loop-turn
invariant-loop-turn l = record {
  long : length l.rows ≡ l._turn;
  inputs : AreInputRows l.sym l.width (input_count l.fn.sym) l.rows;
  count : input_count l.sym ≡ input_count l.fn.sym + l._turn * l.width;
  grows : Grows l.fn.sym l.sym;
}
