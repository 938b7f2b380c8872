use Rattle.std.proofs.Common.{◌≡◌, ◌∷◌, ◌++◌, drop}
use Rattle.fs_interpreter.specs.Meanings.{Grows, Valuation}
use Rattle.order_places.specs.Places.{exchanged}
use Rattle.sym_run.specs.Wires.{AreWires, circuit_meanings}
use Rattle.order_circuit.specs.Codes.{AreRows, node, nodes}
use Rattle.order_circuit.proofs.ExchangeLaws.{exchanged_from}
use Rattle.order_circuit.proofs.exchange.exchanged_behind.Given as goal

-- what came so far, and what is left of the exchange with the held one ahead, is the whole
abbrev pub invariant-loop-k : goal.invariant-loop-k
invariant-loop-k l = record {
  held : AreWires l.sym l.held;
  codes : AreRows l.sym l.codes;
  rest : AreRows l.sym l.rest;
  place : AreWires l.sym l.place;
  whole : (v : Valuation) → nodes l.sym v l.codes ++ exchanged_from l.k (node l.fn.sym v l.place) (node l.sym v l.held ∷ nodes l.fn.sym v (drop l.k l.rest)) ≡ exchanged (node l.fn.sym v l.place) (node l.fn.sym v l.first ∷ nodes l.fn.sym v l.rest);
  grows : Grows (circuit_meanings l.fn.sym) (circuit_meanings l.sym);
}
