use Rattle.std.proofs.Common.{rules}
use Rattle.bool_circuit.specs.contracts.gate.GatePartialEq.TheImpl.{eq-value}
use Rattle.bool_circuit.proofs.Place.{placed}
use Rattle.bool_circuit.proofs.circuit.place.Goals as goal

pub returns-clause-placed : goal.returns-clause-placed
returns-clause-placed c = placed eq-value.it _ _ _ c.in_ok-index.ensures.keys (λ x. search rules)
