-- What wires and lists of wires mean.
use Rattle.std.specs.Prelude.{ℕ, ◌+◌, ◌*◌, ◌<◌, Bool, true, false, List, [], ◌∷◌, length}
use Rattle.std.specs.List.{AllByRecursion}
use Rattle.bool_circuit.specs.declared.gate.Wire.{Wire}
use Rattle.bool_circuit.specs.declared.gate.Gate.{Gate}
use Rattle.bool_circuit.specs.Gates.{wire_value, truth_at}
use Rattle.fs_interpreter.specs.Meanings.{Meanings}
use Rattle.fs_interpreter.specs.States.{State, state_of}
use Rattle.fs_interpreter.specs.declared.cells.Cells.{Cells}

-- a bit as a number
abbrev pub bit_number : Bool → ℕ
bit_number true = 1
bit_number false = 0

-- behind a number, further bits
abbrev pub number_on : (ℕ → Bool) → ℕ → List Wire → ℕ
number_on values n [] = n
number_on values n (w ∷ ws) = number_on values (2 * n + bit_number (values w.0)) ws

-- the binary number, the highest bit first
abbrev pub number : (ℕ → Bool) → List Wire → ℕ
number values ws = number_on values 0 ws

-- they are wires of the circuit
abbrev pub AreWires : List Gate → List Wire → Type 0
AreWires gates ws = AllByRecursion (λ w. w.0 < length gates) ws

-- the wires of a circuit, and the binary numbers of such wires
abbrev pub circuit_meanings : List Gate → Meanings Wire (List Wire)
circuit_meanings gates = record {
  owns = λ w. w.0 < length gates;
  owns_code = λ ws. AreWires gates ws;
  bit = λ v w. wire_value gates v w.0;
  code = λ v ws. number (wire_value gates v) ws;
}

-- the same, once the values of all wires are known, whatever the valuation
abbrev pub value_meanings : List Bool → Meanings Wire (List Wire)
value_meanings values = record {
  owns = λ w. w.0 < length values;
  owns_code = λ ws. AllByRecursion (λ w. w.0 < length values) ws;
  bit = λ v w. truth_at values w.0;
  code = λ v ws. number (truth_at values) ws;
}

-- what cells tell by these values
abbrev pub told_state : {B : Type 0} → List Bool → Cells B Wire (List Wire) → State
told_state values cells = state_of (value_meanings values) (λ n. false) cells
