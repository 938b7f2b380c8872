-- Codes that tell an order place by place.
use Rattle.std.specs.Prelude.{ℕ, zero, suc, ◌+◌, Bool, true, false, not, ◌&&◌, ◌==◌, nat_lt, List, [], ◌∷◌, map, take, drop, if◌then◌else◌}
use Rattle.std.specs.List.{AllByRecursion}
use Rattle.bool_circuit.specs.declared.gate.Wire.{Wire}
use Rattle.bool_circuit.specs.declared.gate.Gate.{Gate}
use Rattle.bool_circuit.specs.Gates.{wire_value}
use Rattle.fs_interpreter.specs.Meanings.{Valuation}
use Rattle.order_places.specs.Places.{all_taken}
use Rattle.sym_run.specs.Wires.{number, AreWires}

-- the node that a code tells
abbrev pub node : List Gate → Valuation → List Wire → ℕ
node gates v code = number (wire_value gates v) code

-- the nodes that codes tell
abbrev pub nodes : List Gate → Valuation → List (List Wire) → List ℕ
nodes gates v codes = map (node gates v) codes

-- the codes are of wires of the circuit
abbrev pub AreRows : List Gate → List (List Wire) → Type 0
AreRows gates rows = AllByRecursion (AreWires gates) rows

-- the node may come next, where it is one of the first k
abbrev pub all_stand : (ℕ → ℕ → Bool) → ℕ → (ℕ → Bool) → ℕ → ℕ → Bool
all_stand before n taken m zero = true
all_stand before n taken m (suc i) = all_stand before n taken m i && (if i == m then not (taken i) && all_taken before taken i n else true)

-- the nodes ahead of a place, or those from it on
abbrev pub part_of : Bool → ℕ → List ℕ → List ℕ
part_of true j order = take j order
part_of false j order = drop j order

-- The nodes of an order from place k on. Those outside the part, ahead of place j or from it on, give way to a number without a
-- program.
abbrev pub kept_from : Bool → ℕ → ℕ → ℕ → List ℕ → List ℕ
kept_from ahead blank j k [] = []
kept_from ahead blank j k (i ∷ order) =
    (if nat_lt j (k + 1) then (if ahead then blank else i) else (if ahead then i else blank)) ∷ kept_from ahead blank j
    (k + 1) order
