use Rattle.std.proofs.Common.{◌≡◌}
use Rattle.fs_interpreter.specs.Meanings.{Grows, Valuation}
use Rattle.sym_run.specs.Wires.{AreWires, circuit_meanings}
use Rattle.order_circuit.specs.Codes.{AreRows, node, nodes}
use Rattle.order_circuit.proofs.PartLaws.{seen}
use Rattle.order_circuit.proofs.parts.code_at.Given as goal

-- the code tells what is seen of the place among the first k
abbrev pub invariant-loop-k : goal.invariant-loop-k
invariant-loop-k l = record {
  chosen : AreWires l.sym l.chosen;
  codes : AreRows l.sym l.codes;
  place : AreWires l.sym l.place;
  value : (v : Valuation) → node l.sym v l.chosen ≡ seen l.k (node l.fn.sym v l.place) (nodes l.fn.sym v l.codes);
  grows : Grows (circuit_meanings l.fn.sym) (circuit_meanings l.sym);
}
