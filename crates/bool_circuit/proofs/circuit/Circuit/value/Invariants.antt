use Rattle.std.proofs.Common.{◌≡◌, length, take}
use Rattle.bool_circuit.specs.Gates.{truth_at, wire_values}
use Rattle.bool_circuit.proofs.circuit.Circuit.value.Given as goal

abbrev pub invariant-loop-k : goal.invariant-loop-k
invariant-loop-k l = (length l.into ≡ length l.self) × (take l.k l.into ≡ wire_values (truth_at l.inputs) (take l.k l.self))
