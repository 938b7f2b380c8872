-- Whether two lists of wires have the same values, as it is computed.
use Rattle.std.specs.Prelude.{ℕ, Bool, true, not, ◌&&◌, if◌then◌else◌, List, [], ◌∷◌}
use Rattle.bool_circuit.specs.declared.gate.Wire.{Wire}

-- two truth values are the same
abbrev pub same_truth : Bool → Bool → Bool
same_truth x y = if x then y else not y

-- the two lists of wires have the same values
abbrev pub agreement : (ℕ → Bool) → List Wire → List Wire → Bool
agreement values [] bs = true
agreement values (a ∷ left) [] = true
agreement values (a ∷ left) (b ∷ right) = same_truth (values a.0) (values b.0) && agreement values left right
