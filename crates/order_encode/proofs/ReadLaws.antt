-- What is read of the inputs with which a model begins is what the model's inputs tell.
use Rattle.std.proofs.Common.{◌≡◌, ℕ, zero, suc, ◌+◌, ◌-◌, ◌<◌, ◌≤◌, Bool, false, List, [], ◌∷◌, take, drop, get_or, length, refl, ap, ◌∙◌, arith}
use Rattle.std.specs.Prelude.{slice_index_or, slice_get}
use Rattle.bool_circuit.specs.declared.gate.Wire.{Wire}
use Rattle.bool_circuit.specs.declared.gate.Gate.{Gate}
use Rattle.bool_circuit.specs.Gates.{truth_at, wire_value, input_count, IsCircuit}
use Rattle.cnf.specs.Formulas.{valuation_of}
use Rattle.cnf.specs.Encoding.{inputs_in}
use Rattle.fs_interpreter.specs.Meanings.{Valuation}
use Rattle.fs_interpreter.specs.States.{State, state_of, truth, number}
use Rattle.fs_interpreter.specs.declared.cells.Cells.{Cells}
use Rattle.sym_run.specs.Wires.{number as number_by, circuit_meanings}
use Rattle.order_encode.proofs.InputsMatter.{values_same}

-- what stands in the front of a model stands in the model
front_same : (n : ℕ) (model : List Bool) (i : ℕ) → i < n → slice_index_or (take n model) i false ≡ slice_index_or model i false
front_same zero model i h = absurd (omega (arith, h))
front_same (suc n) [] i h = refl
front_same (suc n) (b ∷ model) zero h = refl
front_same (suc n) (b ∷ model) (suc i) h = front_same n model i (omega (arith, h))

-- wires have the values under a model that they have under the inputs with which it begins
pub model_values : (gates : List Gate) (model : List Bool) → IsCircuit gates → wire_value gates (truth_at (take (input_count gates) model)) ≡ wire_value gates (inputs_in (valuation_of model))
model_values gates model is = λ t k. values_same gates (truth_at (take (input_count gates) model)) (inputs_in (valuation_of model)) is (λ i h. front_same (input_count gates) model i h ∙ ap (λ j. slice_index_or model j false) (next i)) k t
  where
    next : (i : ℕ) → i ≡ i + 1 - 1
    next i = omega arith

-- what the cells tell by these values of the wires
by_values : {B : Type 0} → (ℕ → Bool) → Cells B Wire (List Wire) → State
by_values f cells = record {
  cell = λ i. record {
    present = truth (λ (w : Wire). f w.0) (slice_get cells.present i);
    folder = truth (λ (w : Wire). f w.0) (slice_get cells.folder i);
    link = truth (λ (w : Wire). f w.0) (slice_get cells.link i);
    content = number (λ (ws : List Wire). number_by f ws) (slice_get cells.content i);
  };
  error = f cells.error.0;
}

-- where wires have the same values, the cells tell the same
pub model_state : {B : Type 0} (gates : List Gate) (u v : Valuation) (cells : Cells B Wire (List Wire)) → wire_value gates u ≡ wire_value gates v → state_of (circuit_meanings gates) u cells ≡ state_of (circuit_meanings gates) v cells
unfolding by_values
model_state gates u v cells e = ap (λ f. by_values f cells) e

-- what is left from a place on is the number there and what is left behind it
pub rest_from : (rest : List ℕ) (k : ℕ) → k < length rest → drop k rest ≡ get_or rest k 0 ∷ drop (k + 1) rest
rest_from [] k h = absurd (omega (arith, h))
rest_from (x ∷ rest) zero h = refl
rest_from (x ∷ rest) (suc k) h =
    let next : suc (k + 1) ≡ suc k + 1 = omega arith in
    rest_from rest k (omega (arith, h)) ∙ ap (λ n. get_or rest k 0 ∷ drop n (x ∷ rest)) next

-- past the end nothing is left
pub rest_done : (rest : List ℕ) (k : ℕ) → length rest ≤ k → drop k rest ≡ []
rest_done [] zero h = refl
rest_done [] (suc k) h = refl
rest_done (x ∷ rest) zero h = absurd (omega (arith, h))
rest_done (x ∷ rest) (suc k) h = rest_done rest k (omega (arith, h))
