use Rattle.std.proofs.Common.{◌≡◌, ◌++◌, drop}
use Rattle.fs_interpreter.specs.Meanings.{Grows, Valuation}
use Rattle.sym_run.specs.Wires.{AreWires, circuit_meanings}
use Rattle.order_circuit.specs.Codes.{AreRows, node, nodes, kept_from}
use Rattle.order_circuit.proofs.parts.kept_codes.Given as goal

-- what came so far, and what is kept of the rest, is the whole
abbrev pub invariant-loop-k : goal.invariant-loop-k
invariant-loop-k l = record {
  kept : AreRows l.sym l.kept;
  codes : AreRows l.sym l.part.codes.now;
  place : AreWires l.sym l.part.place.now;
  whole : (v : Valuation) → nodes l.sym v l.kept ++ kept_from l.part.ahead l.blank (node l.fn.sym v l.part.place.now) l.k (nodes l.fn.sym v (drop l.k l.part.codes.now)) ≡ kept_from l.part.ahead l.blank (node l.fn.sym v l.part.place.now) 0 (nodes l.fn.sym v l.part.codes.now);
  grows : Grows (circuit_meanings l.fn.sym) (circuit_meanings l.sym);
}
