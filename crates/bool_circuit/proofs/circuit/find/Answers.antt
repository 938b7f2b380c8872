use Rattle.std.proofs.Common.{rules, sym}
use Rattle.bool_circuit.specs.contracts.gate.GatePartialEq.TheImpl.{eq-value}
use Rattle.bool_circuit.proofs.Place.{found_at, absent_at}
use Rattle.bool_circuit.proofs.circuit.find.Goals as goal

pub returns-in-Some-clause-found : goal.returns-in-Some-clause-found
returns-in-Some-clause-found c = found_at eq-value.it c.args.gates.now.keys c.args.g c.in-Some.index (sym c.in-Some.ensures.index) (λ x y e. search rules)

pub returns-in-None-clause-absent : goal.returns-in-None-clause-absent
returns-in-None-clause-absent c = absent_at eq-value.it c.args.gates.now.keys c.args.g (sym c.in-None.ensures.found) (λ x. search rules)
