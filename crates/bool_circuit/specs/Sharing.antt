-- Structural hashing: how a circuit keeps its gates.
use Rattle.std.specs.Prelude.{◌≡◌, ℕ, ◌≤◌, List, slice_get, Some}
use Rattle.bool_circuit.specs.declared.gate.Wire.{Wire}
use Rattle.bool_circuit.specs.declared.gate.Gate.{Gate}
use Rattle.bool_circuit.specs.declared.gate.Gate.TheVariants.{Input, Constant, Not, And, Mux}
use Rattle.bool_circuit.specs.Gates.{IsCircuit}

-- each gate stands once, and the operands of an `And` gate are in order
pub record IsSharing (gates : List Gate) : Type 0 where
  pub circuit : IsCircuit gates
  pub once : (j k : ℕ) (g : Gate) → slice_get gates j ≡ Some g → slice_get gates k ≡ Some g → j ≡ k
  pub sorted : (k : ℕ) (a b : Wire) → slice_get gates k ≡ Some (And a b) → a.0 ≤ b.0

-- an operation on two operands that are in order, if it is an `And`; an input is none
abbrev pub IsOperation : Gate → Type 0
IsOperation (Input i) = ⊥
IsOperation (Constant b) = Unit {0}
IsOperation (Not a) = Unit {0}
IsOperation (And a b) = a.0 ≤ b.0
IsOperation (Mux c a b) = Unit {0}
