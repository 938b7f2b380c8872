-- Laws of the values of gates.
use Rattle.std.proofs.Common.{◌≡◌, ℕ, zero, suc, ◌+◌, ◌<◌, Bool, false, not, ◌&&◌, List, [], ◌∷◌, ◌++◌, length, take, drop, slice_get, Some, refl, sym, ap, ◌∙◌, arith, add-zero, append_assoc, take-append-drop, if◌then◌else◌}
use Rattle.std.proofs.lemmas.List.{length-take-le, get_or_append_left, get_or_at, length_push}
use Rattle.std.proofs.lemmas.Option.{slice_get_within}
use Rattle.bool_circuit.specs.declared.gate.Gate.{Gate}
use Rattle.bool_circuit.specs.declared.gate.Gate.TheVariants.{Input, Constant, Not, And, Mux}
use Rattle.bool_circuit.specs.Gates.{truth_at, gate_value, values_from, wire_values, wire_value, OperandsBelow, IsCircuit}

module _ (inputs : ℕ → Bool) where
  -- the values of gates and of more behind them are those of the first, and then of the others
  pub values_from-append : (known : List Bool) (gates more : List Gate) → values_from inputs known (gates ++ more) ≡ values_from inputs (values_from inputs known gates) more
  values_from-append known [] more = refl
  values_from-append known (g ∷ gates) more = values_from-append (known ++ gate_value inputs (truth_at known) g ∷ []) gates more

  -- each gate has one value
  pub length-values_from : (known : List Bool) (gates : List Gate) → length (values_from inputs known gates) ≡ length known + length gates
  length-values_from known [] = sym (add-zero (length known))
  length-values_from known (g ∷ gates) =
      let rest = length-values_from (known ++ gate_value inputs (truth_at known) g ∷ []) gates in
      omega (arith, rest, length_push known (gate_value inputs (truth_at known) g))

  -- each wire of a circuit has one value
  pub length-wire_values : (gates : List Gate) → length (wire_values inputs gates) ≡ length gates
  length-wire_values gates = let e = length-values_from [] gates in omega arith

  -- what is known stays
  pub values_from-front : (known : List Bool) (gates : List Gate) (k : ℕ) → k < length known → truth_at (values_from inputs known gates) k ≡ truth_at known k
  values_from-front known [] k h = refl
  values_from-front known (g ∷ gates) k h =
      let v = gate_value inputs (truth_at known) g in
      values_from-front (known ++ v ∷ []) gates k (omega (arith, length_push known v)) ∙ get_or_append_left known (v ∷ []) false k h

  -- gates behind a wire don't change its value
  pub wire_value-append : (gates more : List Gate) (k : ℕ) → k < length gates → wire_value (gates ++ more) inputs k ≡ wire_value gates inputs k
  wire_value-append gates more k h =
      ap (λ vs. truth_at vs k) (values_from-append [] gates more)
      ∙ values_from-front (wire_values inputs gates) more k (omega (arith, length-wire_values gates))

  -- the value of a gate that is put last is what it says of the wires ahead
  pub wire_values-push : (gates : List Gate) (g : Gate) → wire_values inputs (gates ++ g ∷ []) ≡ wire_values inputs gates ++ gate_value inputs (truth_at (wire_values inputs gates)) g ∷ []
  wire_values-push gates g = values_from-append [] gates (g ∷ [])

  -- a gate reads its operands alone
  pub gate_value-same : (u v : ℕ → Bool) (k : ℕ) (g : Gate) → OperandsBelow k g → ((o : ℕ) → o < k → u o ≡ v o) → gate_value inputs u g ≡ gate_value inputs v g
  gate_value-same u v k (Input i) h same = refl
  gate_value-same u v k (Constant b) h same = refl
  gate_value-same u v k (Not a) h same = ap not (same a.0 h)
  gate_value-same u v k (And a b) h same =
      let p = same a.0 h.0 in let q = same b.0 h.1 in ap (λ x. x && u b.0) p ∙ ap (λ x. v a.0 && x) q
  gate_value-same u v k (Mux c a b) h same =
      let p = same c.0 h.0 in let q = same a.0 h.1 in let r = same b.0 h.2 in
      ap (λ x. if x then u a.0 else u b.0) p ∙ ap (λ x. if v c.0 then x else u b.0) q ∙ ap (λ x. if v c.0 then v a.0 else x) r

-- a list around one of its members
pub split_at : (gates : List Gate) (k : ℕ) (g : Gate) → slice_get gates k ≡ Some g → gates ≡ take k gates ++ g ∷ drop (suc k) gates
split_at [] k g h = cc
split_at (x ∷ gates) zero g h = let e : x ≡ g = cc in ap (λ y. y ∷ gates) e
split_at (x ∷ gates) (suc k) g h = ap (λ gs. x ∷ gs) (split_at gates k g h)

-- the value of a wire is what its gate says of the values of its operands
pub wire_value-at : (gates : List Gate) (k : ℕ) (g : Gate) (inputs : ℕ → Bool) → IsCircuit gates → slice_get gates k ≡ Some g → wire_value gates inputs k ≡ gate_value inputs (wire_value gates inputs) g
wire_value-at gates k g inputs circuit at =
    let front = take k gates in
    let within = slice_get_within gates k g at in
    let long : length front ≡ k = length-take-le k gates (omega arith) in
    let v = gate_value inputs (truth_at (wire_values inputs front)) g in
    let split : gates ≡ (front ++ g ∷ []) ++ drop (suc k) gates = split_at gates k g at ∙ sym (append_assoc front (g ∷ []) (drop (suc k) gates)) in
    let here : wire_value gates inputs k ≡ v =
    ap (λ gs. wire_value gs inputs k) split
    ∙ wire_value-append inputs (front ++ g ∷ []) (drop (suc k) gates) k (omega (arith, length_push front g))
    ∙ ap (λ vs. truth_at vs k) (wire_values-push inputs front g)
    ∙ get_or_at (wire_values inputs front) v [] false k (length-wire_values inputs front ∙ long) in
    here ∙ gate_value-same inputs (truth_at (wire_values inputs front)) (wire_value gates inputs) k g (circuit.operands k g at)
    (λ o below. sym (ap (λ gs. wire_value gs inputs o) (sym (take-append-drop k gates)) ∙ wire_value-append inputs front (drop k gates) o (omega arith)))

-- the same, for all inputs
pub value_at : (gates : List Gate) (k : ℕ) (g : Gate) → IsCircuit gates → slice_get gates k ≡ Some g → (inputs : ℕ → Bool) → wire_value gates inputs k ≡ gate_value inputs (wire_value gates inputs) g
value_at gates k g circuit at inputs = wire_value-at gates k g inputs circuit at
