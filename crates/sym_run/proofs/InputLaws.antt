-- Rows of inputs, and the numbers that they tell.
use Rattle.std.proofs.Common.{◌≡◌, ℕ, zero, suc, ◌+◌, ◌*◌, ◌<◌, ◌==◌, ◌/◌, ◌%◌, Bool, cond, List, [], ◌∷◌, ◌++◌, length, Some, slice_get, refl, sym, ap, subst, ◌∙◌, arith}
use Rattle.bool_circuit.specs.declared.gate.Wire.{Wire}
use Rattle.bool_circuit.specs.declared.gate.Gate.{Gate}
use Rattle.bool_circuit.specs.Gates.{wire_value, Grows}
use Rattle.fs_interpreter.specs.Meanings.{Valuation}
use Rattle.sym_run.specs.Wires.{bit_number, number_on, number, AreWires}
use Rattle.sym_run.specs.Numbers.{twice, digit}
use Rattle.sym_run.specs.Inputs.{AreInputs, AreInputRows}
use Rattle.sym_run.proofs.CircuitLaws.{halves}
use Rattle.sym_run.proofs.NumberLaws.{eqb_is, eqb_not, half_below}

-- wires that are inputs are so as the circuit grows
pub inputs_stay : (old new : List Gate) (k : ℕ) (ws : List Wire) → Grows old new → AreInputs old k ws → AreInputs new k ws
inputs_stay old new k [] g h = tt
inputs_stay old new k (w ∷ ws) g h = (omega (arith, g.more, h.0), (λ v. g.values v w.0 h.0 ∙ h.1 v), inputs_stay old new (suc k) ws g h.2)

-- one more wire that is the next input makes the inputs one more
pub inputs_more : (gates : List Gate) (k : ℕ) (ws : List Wire) (w : Wire) → AreInputs gates k ws → w.0 < length gates → ((v : Valuation) → wire_value gates v w.0 ≡ v (k + length ws)) → AreInputs gates k (ws ++ w ∷ [])
inputs_more gates k [] w h below is = (below, (λ v. is v ∙ ap v (omega arith)), tt)
inputs_more gates k (x ∷ ws) w h below is = (h.0, h.1, inputs_more gates (suc k) ws w h.2 below (λ v. is v ∙ ap v (omega arith)))

-- rows of inputs are so as the circuit grows
pub rows_stay : (old new : List Gate) (width k : ℕ) (rows : List (List Wire)) → Grows old new → AreInputRows old width k rows → AreInputRows new width k rows
rows_stay old new width k [] g h = tt
rows_stay old new width k (ws ∷ rows) g h = (h.0, inputs_stay old new k ws g h.1, rows_stay old new width (k + width) rows g h.2)

-- one more row of the next inputs makes the rows one more
pub rows_more : (gates : List Gate) (width k : ℕ) (rows : List (List Wire)) (ws : List Wire) → AreInputRows gates width k rows → length ws ≡ width → AreInputs gates (k + length rows * width) ws
    → AreInputRows gates width k (rows ++ ws ∷ [])
rows_more gates width k [] ws h long is = (long, subst (λ j. AreInputs gates j ws) (omega arith) is, tt)
rows_more gates width k (r ∷ rows) ws h long is = (h.0, h.1, rows_more gates width (k + width) rows ws h.2 long (subst (λ j. AreInputs gates j ws) (omega arith) is))

-- they are wires, each with the value of its input
pub inputs_are_wires : (gates : List Gate) (k : ℕ) (ws : List Wire) → AreInputs gates k ws → AreWires gates ws
inputs_are_wires gates k [] h = tt
inputs_are_wires gates k (w ∷ ws) h = (h.0, inputs_are_wires gates (suc k) ws h.2)

-- the wire at a place is the input at that place
pub input_at : (gates : List Gate) (k : ℕ) (ws : List Wire) (i : ℕ) (w : Wire) → AreInputs gates k ws → slice_get ws i ≡ Some w → (w.0 < length gates) × ((v : Valuation) → wire_value gates v w.0 ≡ v (k + i))
input_at gates k [] i w h e = cc
input_at gates k (x ∷ ws) zero w h e = let same : x ≡ w = cc in subst (λ (y : Wire). (y.0 < length gates) × ((v : Valuation) → wire_value gates v y.0 ≡ v (k + 0))) same (h.0, (λ v. h.1 v ∙ ap v (omega arith)))
input_at gates k (x ∷ ws) (suc i) w h e = let rest = input_at gates (suc k) ws i w h.2 e in (rest.0, (λ v. rest.1 v ∙ ap v (omega arith)))

-- the row at a place is as wide as all and has the inputs of that place
pub row_at : (gates : List Gate) (width k : ℕ) (rows : List (List Wire)) (i : ℕ) (ws : List Wire) → AreInputRows gates width k rows → slice_get rows i ≡ Some ws → (length ws ≡ width) × AreInputs gates (k + i * width) ws
row_at gates width k [] i ws h e = cc
row_at gates width k (r ∷ rows) zero ws h e = let same : r ≡ ws = cc in subst (λ (y : List Wire). (length y ≡ width) × AreInputs gates (k + 0 * width) y) same (h.0, subst (λ j. AreInputs gates j r) (omega arith) h.1)
row_at gates width k (r ∷ rows) (suc i) ws h e = let found = row_at gates width (k + width) rows i ws h.2 e in (found.0, subst (λ j. AreInputs gates j ws) (omega arith) found.1)

-- ---- numbers of inputs

-- the number of the inputs from k on, so many of them
abbrev pub told_number : (ℕ → Bool) → ℕ → ℕ → ℕ → ℕ
told_number v n k zero = n
told_number v n k (suc m) = told_number v (2 * n + bit_number (v k)) (suc k) m

-- wires of inputs behind a number tell the number with those inputs behind it
inputs_on : (gates : List Gate) (k n : ℕ) (ws : List Wire) (v : Valuation) → AreInputs gates k ws → number_on (wire_value gates v) n ws ≡ told_number v n k (length ws)
inputs_on gates k n [] v h = refl
inputs_on gates k n (w ∷ ws) v h = ap (λ b. number_on (wire_value gates v) (2 * n + bit_number b) ws) (h.1 v) ∙ inputs_on gates (suc k) (2 * n + bit_number (v k)) ws v h.2

-- one input more at the end doubles the number and adds its bit
told_last : (v : ℕ → Bool) (n k m : ℕ) → told_number v n k (suc m) ≡ 2 * told_number v n k m + bit_number (v (k + m))
told_last v n k zero = ap (λ j. 2 * n + bit_number (v j)) (omega arith)
told_last v n k (suc m) = told_last v (2 * n + bit_number (v k)) (suc k) m ∙ ap (λ j. 2 * told_number v (2 * n + bit_number (v k)) (suc k) m + bit_number (v j)) (omega arith)

-- inputs with the same values tell the same number
told_same : (u v : ℕ → Bool) (n k m : ℕ) → ((j : ℕ) → j < m → u (k + j) ≡ v (k + j)) → told_number u n k m ≡ told_number v n k m
told_same u v n k zero h = refl
told_same u v n k (suc m) h = told_last u n k m ∙ (λ i. 2 * told_same u v n k m (λ j b. h j (omega (arith, b))) i + bit_number (h m (omega arith) i)) ∙ sym (told_last v n k m)

-- inputs that are the digits of a number are read as that number
digits_told : (v : ℕ → Bool) (k width n : ℕ) → n < twice width → ((j : ℕ) → j < width → v (k + j) ≡ digit width n j) → told_number v 0 k width ≡ n
digits_told v k zero n h is = omega (arith, h)
digits_told v k (suc width) n h is =
    told_last v 0 k width
    ∙ (λ i. 2 * digits_told v k width (n / 2) (half_below width n h) (λ j b. is j (omega (arith, b)) ∙ ap (λ c. cond c (n % 2 == 1) (digit width (n / 2) j)) (eqb_not j width (λ e. absurd (omega (arith, b, e))))) i
    + bit_number ((is width (omega arith) ∙ ap (λ c. cond c (n % 2 == 1) (digit width (n / 2) width)) (eqb_is width width refl)) i))
    ∙ halves n

-- inputs that are the digits of a number tell it
pub digits_are : (gates : List Gate) (k width : ℕ) (ws : List Wire) (n : ℕ) (v : Valuation) → AreInputs gates k ws → length ws ≡ width → n < twice width
    → ((j : ℕ) → j < width → v (k + j) ≡ digit width n j) → number (wire_value gates v) ws ≡ n
digits_are gates k width ws n v h long below is =
    inputs_on gates k 0 ws v h ∙ ap (told_number v 0 k) long ∙ digits_told v k width n below is

-- what inputs tell stays where they do
pub number_same : (gates : List Gate) (k : ℕ) (ws : List Wire) (u v : Valuation) → AreInputs gates k ws → ((j : ℕ) → j < length ws → u (k + j) ≡ v (k + j))
    → number (wire_value gates u) ws ≡ number (wire_value gates v) ws
number_same gates k ws u v h is = inputs_on gates k 0 ws u h ∙ told_same u v 0 k (length ws) is ∙ sym (inputs_on gates k 0 ws v h)
