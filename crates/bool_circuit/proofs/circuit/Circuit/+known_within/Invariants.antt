use Rattle.bool_circuit.proofs.circuit.Circuit.+known_within.Given as goal

abbrev pub decreases-known_within : goal.decreases-known_within
decreases-known_within l = l.levels
