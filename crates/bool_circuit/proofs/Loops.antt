-- Laws of the loops over gates and over lists of wires.
use Rattle.std.proofs.Common.{◌≡◌, ◌↔◌, IsTrue, ℕ, zero, suc, ◌+◌, ◌<◌, ◌≤◌, Bool, true, false, true≢false, ◌&&◌, List, [], ◌∷◌, ◌++◌, length, take, drop, set, get_or, slice_get, Some, refl, sym, ap, ◌∙◌}
use Rattle.std.proofs.lemmas.List.{take_more, take_more_set, drop_more, drop_all}
use Rattle.std.proofs.lemmas.Option.{slice_get_within, get_or_from_slice_get}
use Rattle.bool_circuit.specs.declared.gate.Wire.{Wire}
use Rattle.bool_circuit.specs.declared.gate.Gate.{Gate}
use Rattle.bool_circuit.specs.Gates.{truth_at, gate_value, wire_values, Agree}
use Rattle.bool_circuit.specs.Agreement.{same_truth, agreement}
use Rattle.bool_circuit.proofs.Values.{wire_values-push}

-- one more value is written
pub value_more : (gates : List Gate) (inputs : ℕ → Bool) (into : List Bool) (k : ℕ) (g : Gate) → slice_get gates k ≡ Some g → k < length into → take k into ≡ wire_values inputs (take k gates)
    → take (k + 1) (set into k (gate_value inputs (truth_at (take k into)) g)) ≡ wire_values inputs (take (k + 1) gates)
value_more gates inputs into k g at within so_far =
    take_more_set into k (gate_value inputs (truth_at (take k into)) g) within
    ∙ ap (λ vs. vs ++ gate_value inputs (truth_at vs) g ∷ []) so_far
    ∙ sym (wire_values-push inputs (take k gates) g)
    ∙ ap (wire_values inputs) (sym (take_more gates k g (slice_get_within gates k g at) ∙ ap (λ x. take k gates ++ x ∷ []) (get_or_from_slice_get gates k g g at)))

-- how conjunctions are nested doesn't matter
and_assoc : (x y z : Bool) → (x && y) && z ≡ x && (y && z)
and_assoc true y z = refl
and_assoc false y z = refl

-- a conjunction with true is its other side
and_true : (x : Bool) → x && true ≡ x
and_true true = refl
and_true false = refl

-- of a conjunction that is true the left side is true
true_from_and_left : (x y : Bool) → x && y ≡ true → x ≡ true
true_from_and_left true y h = refl
true_from_and_left false y h = h

-- of a conjunction that is true the right side is true
true_from_and_right : (x y : Bool) → x && y ≡ true → y ≡ true
true_from_and_right true y h = h
true_from_and_right false y h = absurd (true≢false (sym h))

-- truth values that are told to be the same are
same_from_truth : (x y : Bool) → same_truth x y ≡ true → x ≡ y
same_from_truth true true h = refl
same_from_truth true false h = absurd (true≢false (sym h))
same_from_truth false true h = absurd (true≢false (sym h))
same_from_truth false false h = refl

-- and truth values that are the same are told to be
truth_from_same : (x y : Bool) → x ≡ y → same_truth x y ≡ true
truth_from_same true y h = sym h
truth_from_same false true h = absurd (true≢false (sym h))
truth_from_same false false h = refl

module _ (v : ℕ → Bool) where
  -- lists of wires that are told to agree have the same values place by place
  agree_from : (left right : List Wire) → agreement v left right ≡ true → Agree v left right
  agree_from [] right h i a b p q = absurd cc
  agree_from (x ∷ left) [] h i a b p q = absurd cc
  agree_from (x ∷ left) (y ∷ right) h zero a b p q =
      let e : x ≡ a = cc in let f : y ≡ b = cc in
      ap (λ w. v w.0) (sym e) ∙ same_from_truth (v x.0) (v y.0) (true_from_and_left (same_truth (v x.0) (v y.0)) (agreement v left right) h) ∙ ap (λ w. v w.0) f
  agree_from (x ∷ left) (y ∷ right) h (suc i) a b p q =
      agree_from left right (true_from_and_right (same_truth (v x.0) (v y.0)) (agreement v left right) h) i a b p q

  -- and lists that do are told to agree
  agree_to : (left right : List Wire) → Agree v left right → agreement v left right ≡ true
  agree_to [] right h = refl
  agree_to (x ∷ left) [] h = refl
  agree_to (x ∷ left) (y ∷ right) h =
      ap (λ b. b && agreement v left right) (truth_from_same (v x.0) (v y.0) (h 0 x y refl refl)) ∙ agree_to left right (λ i a b p q. h (suc i) a b p q)

  -- one more pair is read
  pub agreement_more : (left right : List Wire) (i : ℕ) (d : Wire) → i < length left → i < length right
      → agreement v (drop i left) (drop i right) ≡ (same_truth (v (get_or left i d).0) (v (get_or right i d).0) && agreement v (drop (i + 1) left) (drop (i + 1) right))
  agreement_more left right i d h k = ap (λ ws. agreement v ws (drop i right)) (drop_more left i d h) ∙ ap (λ ws. agreement v (get_or left i d ∷ drop (i + 1) left) ws) (drop_more right i d k)

  -- past its end a list of wires agrees with any
  pub agreement_all : (left right : List Wire) (i : ℕ) → length left ≤ i → agreement v (drop i left) (drop i right) ≡ true
  agreement_all left right i h = ap (λ ws. agreement v ws (drop i right)) (drop_all i left h)

  -- what was found so far, joined with what is left
  pub agreement_step : (left right : List Wire) (i : ℕ) (x s y : Bool) → i < length left → i < length right
      → s ≡ same_truth (v (get_or left i record { 0 = 0 }).0) (v (get_or right i record { 0 = 0 }).0) → y ≡ (x && s)
      → (x && agreement v (drop i left) (drop i right)) ≡ agreement v left right
      → (y && agreement v (drop (i + 1) left) (drop (i + 1) right)) ≡ agreement v left right
  agreement_step left right i x s y h k es ey so_far =
      let rest = agreement v (drop (i + 1) left) (drop (i + 1) right) in
      let here = same_truth (v (get_or left i record { 0 = 0 }).0) (v (get_or right i record { 0 = 0 }).0) in
      ap (λ z. z && rest) (ey ∙ ap (λ z. x && z) es)
      ∙ and_assoc x here rest
      ∙ ap (λ z. x && z) (sym (agreement_more left right i record { 0 = 0 } h k))
      ∙ so_far

  -- the whole was read
  pub agreement_true : (left right : List Wire) (i : ℕ) (x : Bool) → length left ≤ i → (x && agreement v (drop i left) (drop i right)) ≡ agreement v left right
      → IsTrue x ↔ Agree v left right
  agreement_true left right i x h so_far =
      let e : x ≡ agreement v left right = sym (and_true x) ∙ ap (λ z. x && z) (sym (agreement_all left right i h)) ∙ so_far in
      (λ t. agree_from left right (sym e ∙ t), λ a. e ∙ agree_to left right a)
