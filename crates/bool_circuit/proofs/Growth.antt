-- Laws of gates that are added behind the others.
use Rattle.std.proofs.Common.{◌≡◌, ◌≢◌, ◌⊎◌, inl, inr, ℕ, zero, suc, ◌+◌, ◌<◌, ◌≤◌, Bool, List, [], ◌∷◌, ◌++◌, length, take, slice_get, Some, refl, sym, ap, ◌∙◌, subst, arith}
use Rattle.std.proofs.lemmas.List.{take-append-le, length_push, take_all, take-take}
use Rattle.std.proofs.lemmas.Option.{slice_get_within}
use Rattle.bool_circuit.specs.declared.gate.Wire.{Wire}
use Rattle.bool_circuit.specs.declared.gate.Gate.{Gate}
use Rattle.bool_circuit.specs.declared.gate.Gate.TheVariants.{Input, Constant, Not, And, Mux}
use Rattle.bool_circuit.specs.Gates.{wire_value, input_count, OperandsBelow, IsCircuit, PlaceBelow, gate_value, Grows}
use Rattle.bool_circuit.specs.Sharing.{IsSharing, IsOperation}
use Rattle.bool_circuit.specs.Placed.{IsPlaced}
use Rattle.bool_circuit.proofs.Values.{wire_value-append, wire_value-at, gate_value-same}

-- a circuit that stays has grown by nothing
pub grows_self : (gates : List Gate) → Grows gates gates
grows_self gates = record { more = omega arith; front = take_all (length gates) gates (omega arith); values = λ inputs k h. refl }

-- one gate more leaves the old ones and their values
pub grows_push : (gates : List Gate) (g : Gate) → Grows gates (gates ++ g ∷ [])
grows_push gates g = record {
  more = omega (arith, length_push gates g);
  front = take-append-le (length gates) gates (g ∷ []) (omega arith) ∙ take_all (length gates) gates (omega arith);
  values = λ inputs k h. wire_value-append inputs gates (g ∷ []) k h;
}

-- a circuit that grew twice has grown
pub grows_more : (a b c : List Gate) → Grows a b → Grows b c → Grows a c
grows_more a b c f g = record {
  more = let p = f.more in let q = g.more in omega arith;
  front = sym (take-take (length a) (length b) c f.more) ∙ ap (take (length a)) g.front ∙ f.front;
  values = λ inputs k h. let p = f.more in g.values inputs k (omega arith) ∙ f.values inputs k h;
}

-- what stands at a place behind which one more was added
pub at_push : (gates : List Gate) (g : Gate) (k : ℕ) (h : Gate) → slice_get (gates ++ g ∷ []) k ≡ Some h → (slice_get gates k ≡ Some h) ⊎ ((k ≡ length gates) × (g ≡ h))
at_push [] g zero h e = inr (refl, cc)
at_push [] g (suc k) h e = absurd cc
at_push (x ∷ gates) g zero h e = inl e
at_push (x ∷ gates) g (suc k) h e = elim (at_push gates g k h e) [ inl p ↦ inl p | inr p ↦ inr (ap suc p.0, p.1) ]

-- a gate keeps its place when one is put last
pub stays : (gates : List Gate) (g : Gate) (k : ℕ) (h : Gate) → slice_get gates k ≡ Some h → slice_get (gates ++ g ∷ []) k ≡ Some h
stays [] g k h e = absurd cc
stays (x ∷ gates) g zero h e = e
stays (x ∷ gates) g (suc k) h e = stays gates g k h e

-- the gate that is put last stands at the end
pub last_stands : (gates : List Gate) (g : Gate) → slice_get (gates ++ g ∷ []) (length gates) ≡ Some g
last_stands [] g = refl
last_stands (x ∷ gates) g = last_stands gates g

-- one operation more leaves the number of inputs
pub input_count-push : (gates : List Gate) (g : Gate) → IsOperation g → input_count (gates ++ g ∷ []) ≡ input_count gates
input_count-push [] (Input i) h = absurd h
input_count-push [] (Constant b) h = refl
input_count-push [] (Not a) h = refl
input_count-push [] (And a b) h = refl
input_count-push [] (Mux c a b) h = refl
input_count-push (Input i ∷ gates) g h = ap (λ n. 1 + n) (input_count-push gates g h)
input_count-push (Constant b ∷ gates) g h = input_count-push gates g h
input_count-push (Not a ∷ gates) g h = input_count-push gates g h
input_count-push (And a b ∷ gates) g h = input_count-push gates g h
input_count-push (Mux c a b ∷ gates) g h = input_count-push gates g h

-- one input more makes it one greater
pub input_count-push_input : (gates : List Gate) (i : ℕ) → input_count (gates ++ Input i ∷ []) ≡ input_count gates + 1
input_count-push_input [] i = refl
input_count-push_input (Input j ∷ gates) i = let e = input_count-push_input gates i in omega arith
input_count-push_input (Constant b ∷ gates) i = input_count-push_input gates i
input_count-push_input (Not a ∷ gates) i = input_count-push_input gates i
input_count-push_input (And a b ∷ gates) i = input_count-push_input gates i
input_count-push_input (Mux c a b ∷ gates) i = input_count-push_input gates i

-- there are no more inputs than gates
pub input_count_within : (gates : List Gate) → input_count gates ≤ length gates
input_count_within [] = omega arith
input_count_within (Input i ∷ gates) = let e = input_count_within gates in omega arith
input_count_within (Constant b ∷ gates) = let e = input_count_within gates in omega arith
input_count_within (Not a ∷ gates) = let e = input_count_within gates in omega arith
input_count_within (And a b ∷ gates) = let e = input_count_within gates in omega arith
input_count_within (Mux c a b ∷ gates) = let e = input_count_within gates in omega arith

-- the place of an input gate is below the count of inputs
pub input_below : (gates : List Gate) (k i : ℕ) → slice_get gates k ≡ Some (Input i) → input_count (take k gates) < input_count gates
input_below [] k i e = absurd cc
input_below (x ∷ gates) zero i e = let s : x ≡ Input i = cc in subst (λ g. 0 < input_count (g ∷ gates)) (sym s) (omega arith)
input_below (Input j ∷ gates) (suc k) i e = let r = input_below gates k i e in omega arith
input_below (Constant b ∷ gates) (suc k) i e = input_below gates k i e
input_below (Not a ∷ gates) (suc k) i e = input_below gates k i e
input_below (And a b ∷ gates) (suc k) i e = input_below gates k i e
input_below (Mux c a b ∷ gates) (suc k) i e = input_below gates k i e

-- one more gate, which stands on wires that are there, and is not there yet
module _ (gates : List Gate) (g : Gate) (s : IsSharing gates) (new : (k : ℕ) → slice_get gates k ≢ Some g) (below : OperandsBelow (length gates) g) where
  -- with a gate put last whose operands stand there, each gate stands on wires ahead of it
  operands_push : (k : ℕ) (h : Gate) → slice_get (gates ++ g ∷ []) k ≡ Some h → OperandsBelow k h
  operands_push k h e = elim (at_push gates g k h e) [
    | inl p ↦ s.circuit.operands k h p
    | inr p ↦ subst (OperandsBelow k) p.1 (subst (λ n. OperandsBelow n g) (sym p.0) below)
  ]

  -- with a gate put last that stood nowhere, each gate stands once
  once_push : (j k : ℕ) (h : Gate) → slice_get (gates ++ g ∷ []) j ≡ Some h → slice_get (gates ++ g ∷ []) k ≡ Some h → j ≡ k
  once_push j k h d e = elim (at_push gates g j h d) [
    | inl p ↦ elim (at_push gates g k h e) [ inl q ↦ s.once j k h p q | inr q ↦ absurd (new j (p ∙ ap Some (sym q.1))) ]
    | inr p ↦ elim (at_push gates g k h e) [ inl q ↦ absurd (new k (q ∙ ap Some (sym p.1))) | inr q ↦ p.0 ∙ sym q.0 ]
  ]

  -- the fronts of the old gates stay
  front_push : (k : ℕ) → k ≤ length gates → take k (gates ++ g ∷ []) ≡ take k gates
  front_push k h = take-append-le k gates (g ∷ []) h

  -- a gate that is new, whose operands stand there in order, leaves equal gates shared
  pub sharing_push : ((i : ℕ) → g ≡ Input i → i ≡ input_count gates) → ((a b : Wire) → g ≡ And a b → a.0 ≤ b.0) → IsSharing (gates ++ g ∷ [])
  sharing_push place order = record {
    circuit = record {
      operands = operands_push;
      places = λ k i e. elim (at_push gates g k (Input i) e) [
        | inl p ↦ s.circuit.places k i p ∙ ap input_count (sym (front_push k (let w = slice_get_within gates k (Input i) p in omega arith)))
        | inr p ↦ place i p.1 ∙ ap input_count (sym (take_all k gates (omega arith)) ∙ sym (front_push k (omega arith)))
      ];
    };
    once = once_push;
    sorted = λ k a b e. elim (at_push gates g k (And a b) e) [ inl p ↦ s.sorted k a b p | inr p ↦ order a b p.1 ];
  }

-- an input's place is below the count of inputs
pub place_below : (gates : List Gate) (k : ℕ) (g : Gate) → IsCircuit gates → slice_get gates k ≡ Some g → PlaceBelow (input_count gates) g
place_below gates k (Input i) s e = subst (λ n. n < input_count gates) (sym (s.places k i e)) (input_below gates k i e)
place_below gates k (Constant b) s e = tt
place_below gates k (Not a) s e = tt
place_below gates k (And a b) s e = tt
place_below gates k (Mux c a b) s e = tt

-- an operation is no input
no_input : (g : Gate) (i : ℕ) → IsOperation g → g ≡ Input i → ⊥
no_input g i o e = subst IsOperation e o

-- an `And` that is an operation has its operands in order
in_order : (g : Gate) (a b : Wire) → IsOperation g → g ≡ And a b → a.0 ≤ b.0
in_order g a b o e = subst IsOperation e o

module _ (old : List Gate) (g : Gate) (new : List Gate) (p : IsPlaced old g new) where
  -- to put a gate in lets the circuit grow
  pub placed_grows : Grows old new
  placed_grows = elim p [ inl e ↦ subst (Grows old) (sym e) (grows_self old) | inr e ↦ subst (Grows old) (sym e.0) (grows_push old g) ]

  -- to put an operation in leaves the number of inputs
  pub placed_inputs : IsOperation g → input_count new ≡ input_count old
  placed_inputs o = elim p [ inl e ↦ ap input_count e | inr e ↦ ap input_count e.0 ∙ input_count-push old g o ]

  -- to put an operation in leaves equal gates shared
  pub placed_sharing : IsSharing old → OperandsBelow (length old) g → IsOperation g → IsSharing new
  placed_sharing s below o = elim p [
    | inl e ↦ subst IsSharing (sym e) s
    | inr e ↦ subst IsSharing (sym e.0) (sharing_push old g s e.1 below (λ i h. absurd (no_input g i o h)) (λ a b h. in_order g a b o h))
  ]

-- the value of a gate over old wires
pub value_in : (old new : List Gate) (w : ℕ) (g : Gate) → IsSharing new → Grows old new → OperandsBelow (length old) g → slice_get new w ≡ Some g
    → (inputs : ℕ → Bool) → wire_value new inputs w ≡ gate_value inputs (wire_value old inputs) g
value_in old new w g s f below at inputs =
    wire_value-at new w g inputs s.circuit at
    ∙ gate_value-same inputs (wire_value new inputs) (wire_value old inputs) (length old) g below (λ o h. f.values inputs o h)

-- an input gate stands nowhere before it is numbered
pub new_input : (gates : List Gate) → IsCircuit gates → (k : ℕ) → slice_get gates k ≢ Some (Input (input_count gates))
new_input gates s k e = let a = s.places k (input_count gates) e in let b = input_below gates k (input_count gates) e in omega arith

-- one input more leaves equal gates shared
pub input_sharing : (gates : List Gate) → IsSharing gates → IsSharing (gates ++ Input (input_count gates) ∷ [])
input_sharing gates s = sharing_push gates (Input (input_count gates)) s (new_input gates s.circuit) tt (λ i e. cc) (λ a b e. cc)

-- putting the next input
module _ (old new : List Gate) (w : ℕ) (s : IsSharing old) (p : IsPlaced old (Input (input_count old)) new) (at : slice_get new w ≡ Some (Input (input_count old))) where
  -- the next input is new, so it stands last
  pub placed_last : new ≡ old ++ Input (input_count old) ∷ []
  placed_last = elim p [ inl e ↦ absurd (new_input old s.circuit w (ap (λ gs. slice_get gs w) (sym e) ∙ at)) | inr e ↦ e.0 ]

  -- to put the next input in leaves equal gates shared
  pub placed_input_sharing : IsSharing new
  placed_input_sharing = subst IsSharing (sym placed_last) (input_sharing old s)

  -- and makes their number one greater
  pub placed_input_count : input_count new ≡ input_count old + 1
  placed_input_count = ap input_count placed_last ∙ input_count-push_input old (input_count old)

-- what stands at a place stands within the list
pub within : (gates : List Gate) (k : ℕ) (g : Gate) → slice_get gates k ≡ Some g → k < length gates
within gates k g e = slice_get_within gates k g e
