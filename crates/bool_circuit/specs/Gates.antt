-- The values of gates, by recursion on the list of gates, and what a circuit keeps.
use Rattle.std.specs.Prelude.{◌≡◌, ◌⊎◌, ℕ, ◌+◌, ◌<◌, ◌≤◌, Bool, false, not, ◌&&◌, if◌then◌else◌, List, [], ◌∷◌, ◌++◌, length, take, slice_get, slice_index_or, Some}
use Rattle.bool_circuit.specs.declared.gate.Wire.{Wire}
use Rattle.bool_circuit.specs.declared.gate.Gate.{Gate}
use Rattle.bool_circuit.specs.declared.gate.Gate.TheVariants.{Input, Constant, Not, And, Mux}

-- the truth value at a place of a list, false past its end
abbrev pub truth_at : List Bool → ℕ → Bool
truth_at values k = slice_index_or values k false

-- what a gate says, from the values of the inputs and of the wires
abbrev pub gate_value : (ℕ → Bool) → (ℕ → Bool) → Gate → Bool
gate_value inputs wires (Input i) = inputs i
gate_value inputs wires (Constant b) = b
gate_value inputs wires (Not a) = not (wires a.0)
gate_value inputs wires (And a b) = wires a.0 && wires b.0
gate_value inputs wires (Mux c a b) = if wires c.0 then wires a.0 else wires b.0

-- the values of all gates, behind those that are known already
abbrev pub values_from : (ℕ → Bool) → List Bool → List Gate → List Bool
values_from inputs known [] = known
values_from inputs known (g ∷ gates) = values_from inputs (known ++ gate_value inputs (truth_at known) g ∷ []) gates

-- the values of all gates: each is told by the values ahead of it
abbrev pub wire_values : (ℕ → Bool) → List Gate → List Bool
wire_values inputs gates = values_from inputs [] gates

-- the value of one wire
abbrev pub wire_value : List Gate → (ℕ → Bool) → ℕ → Bool
wire_value gates inputs w = truth_at (wire_values inputs gates) w

-- how many of the gates are inputs
abbrev pub input_count : List Gate → ℕ
input_count [] = 0
input_count (Input i ∷ gates) = 1 + input_count gates
input_count (Constant b ∷ gates) = input_count gates
input_count (Not a ∷ gates) = input_count gates
input_count (And a b ∷ gates) = input_count gates
input_count (Mux c a b ∷ gates) = input_count gates

-- the operands of a gate are wires below k
abbrev pub OperandsBelow : ℕ → Gate → Type 0
OperandsBelow k (Input i) = Unit {0}
OperandsBelow k (Constant b) = Unit {0}
OperandsBelow k (Not a) = a.0 < k
OperandsBelow k (And a b) = (a.0 < k) × (b.0 < k)
OperandsBelow k (Mux c a b) = (c.0 < k) × (a.0 < k) × (b.0 < k)

-- each gate stands on wires ahead of it, and the inputs are numbered in order
pub record IsCircuit (gates : List Gate) : Type 0 where
  pub operands : (k : ℕ) (g : Gate) → slice_get gates k ≡ Some g → OperandsBelow k g
  pub places : (k i : ℕ) → slice_get gates k ≡ Some (Input i) → i ≡ input_count (take k gates)

-- the wire k is an `And` gate over these two wires, in either order
abbrev pub IsAndOver : List Gate → Wire → Wire → ℕ → Type 0
IsAndOver gates a b k = (slice_get gates k ≡ Some (And a b)) ⊎ (slice_get gates k ≡ Some (And b a))

-- gates may have been added behind the old ones, whose values stay
pub record Grows (old new : List Gate) : Type 0 where
  pub more : length old ≤ length new
  pub front : take (length old) new ≡ old
  pub values : (inputs : ℕ → Bool) (k : ℕ) → k < length old → wire_value new inputs k ≡ wire_value old inputs k

-- an input's place is below n
abbrev pub PlaceBelow : ℕ → Gate → Type 0
PlaceBelow n (Input i) = i < n
PlaceBelow n (Constant b) = Unit {0}
PlaceBelow n (Not a) = Unit {0}
PlaceBelow n (And a b) = Unit {0}
PlaceBelow n (Mux c a b) = Unit {0}

-- the two lists of wires have the same values, place by place
abbrev pub Agree : (ℕ → Bool) → List Wire → List Wire → Type 0
Agree values left right = (i : ℕ) (a b : Wire) → slice_get left i ≡ Some a → slice_get right i ≡ Some b → values a.0 ≡ values b.0
