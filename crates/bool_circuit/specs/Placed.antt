-- What putting a gate into the list of gates does.
use Rattle.std.specs.Prelude.{◌≡◌, ◌≢◌, ◌⊎◌, ℕ, List, [], ◌∷◌, ◌++◌, slice_get, Some}
use Rattle.bool_circuit.specs.declared.gate.Gate.{Gate}

-- the gate stood there already, or it is new and stands last
abbrev pub IsPlaced : List Gate → Gate → List Gate → Type 0
IsPlaced old g new = (new ≡ old) ⊎ ((new ≡ old ++ g ∷ []) × ((k : ℕ) → slice_get old k ≢ Some g))
