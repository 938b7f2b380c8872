-- The values of wires depend on the inputs that are there, and on no others.
use Rattle.std.proofs.Common.{◌≡◌, ℕ, suc, ◌<◌, Bool, List, [], ◌∷◌, ◌++◌, Some, slice_get, refl, ap, ◌∙◌}
use Rattle.std.specs.List.{AllByRecursion}
use Rattle.bool_circuit.specs.declared.gate.Gate.{Gate}
use Rattle.bool_circuit.specs.declared.gate.Gate.TheVariants.{Input, Constant, Not, And, Mux}
use Rattle.bool_circuit.specs.Gates.{truth_at, gate_value, values_from, wire_value, input_count, IsCircuit, PlaceBelow}
use Rattle.bool_circuit.proofs.Growth.{place_below}
use Rattle.fs_interpreter.specs.Meanings.{Valuation}

-- a gate whose input is below n has the same value where the first n inputs have
gate_same : (u v : Valuation) (n : ℕ) (wires : ℕ → Bool) (g : Gate) → PlaceBelow n g → ((i : ℕ) → i < n → u i ≡ v i) → gate_value u wires g ≡ gate_value v wires g
gate_same u v n wires (Input i) below same = same i below
gate_same u v n wires (Constant b) below same = refl
gate_same u v n wires (Not a) below same = refl
gate_same u v n wires (And a b) below same = refl
gate_same u v n wires (Mux c a b) below same = refl

-- and so have all gates behind known values
from_same : (u v : Valuation) (n : ℕ) (known : List Bool) (gates : List Gate) → AllByRecursion (PlaceBelow n) gates → ((i : ℕ) → i < n → u i ≡ v i) → values_from u known gates ≡ values_from v known gates
from_same u v n known [] all same = refl
from_same u v n known (g ∷ gates) all same =
    ap (λ b. values_from u (known ++ b ∷ []) gates) (gate_same u v n (truth_at known) g all.0 same) ∙ from_same u v n (known ++ gate_value v (truth_at known) g ∷ []) gates all.1 same

-- what holds of the gate at each place holds of all
all_of : (P : Gate → Type 0) (gates : List Gate) → ((k : ℕ) (g : Gate) → slice_get gates k ≡ Some g → P g) → AllByRecursion P gates
all_of P [] h = tt
all_of P (g ∷ gates) h = (h 0 g refl, all_of P gates (λ k. h (suc k)))

-- wires have the same values where all inputs of the circuit have
pub values_same : (gates : List Gate) (u v : Valuation) → IsCircuit gates → ((i : ℕ) → i < input_count gates → u i ≡ v i) → (k : ℕ) → wire_value gates u k ≡ wire_value gates v k
values_same gates u v is same k = ap (λ values. truth_at values k) (from_same u v (input_count gates) [] gates (all_of (PlaceBelow (input_count gates)) gates (λ j g. place_below gates j g is)) same)
