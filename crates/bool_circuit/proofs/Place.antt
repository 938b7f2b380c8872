-- What inserting into a set of gates does to their list.
use Rattle.std.proofs.Common.{◌≡◌, ◌≢◌, ◌⊎◌, inl, inr, ℕ, Bool, true, false, true≢false, List, [], ◌∷◌, ◌++◌, ◌≤◌, get_or, slice_get, position, Some, refl, sym, ap, ◌∙◌, if◌then◌else◌, arith}
use Rattle.std.specs.List.{list_any}
use Rattle.std.proofs.lemmas.Map.Keys.{any_passes_from_place}
use Rattle.std.proofs.lemmas.List.Quantifiers.{position-Some}
use Rattle.std.proofs.lemmas.Option.{slice_get-get_or}
use Rattle.bool_circuit.specs.declared.gate.Wire.{Wire}
use Rattle.bool_circuit.specs.declared.gate.Gate.{Gate}
use Rattle.bool_circuit.specs.declared.gate.Gate.TheVariants.{And}
use Rattle.bool_circuit.specs.Gates.{IsAndOver}
use Rattle.bool_circuit.specs.Sharing.{IsSharing}

-- a gate that is put in unless it is found stood there already, or is new and stands last
pub placed : {X : Type 0} (eq : X → X → Bool) → (old new : List X) (g : X) → new ≡ (if list_any (eq g) old then old else old ++ g ∷ []) → ((x : X) → eq x x ≡ true)
    → (new ≡ old) ⊎ ((new ≡ old ++ g ∷ []) × ((k : ℕ) → slice_get old k ≢ Some g))
placed eq old new g e same = by (list_any (eq g) old) refl
  where
    by : (b : Bool) → list_any (eq g) old ≡ b → (new ≡ old) ⊎ ((new ≡ old ++ g ∷ []) × ((k : ℕ) → slice_get old k ≢ Some g))
    by true h = inl (e ∙ ap (λ c. if c then old else old ++ g ∷ []) h)
    by false h = inr (e ∙ ap (λ c. if c then old else old ++ g ∷ []) h, λ k there. true≢false (sym (any_passes_from_place (eq g) old k g there (same g)) ∙ h))

-- the place that a search gives
pub found_at : {X : Type 0} (eq : X → X → Bool) (ks : List X) (g : X) (i : ℕ) → position (eq g) ks ≡ Some i → ((x y : X) → eq x y ≡ true → x ≡ y) → slice_get ks i ≡ Some g
found_at eq ks g i e same =
    let p = position-Some (eq g) ks i g e in
    slice_get-get_or ks i g p.0 ∙ ap Some (sym (same g (get_or ks i g) p.1))

-- where a search finds nothing
pub absent_at : {X : Type 0} (eq : X → X → Bool) (ks : List X) (g : X) → list_any (eq g) ks ≡ false → ((x : X) → eq x x ≡ true) → (k : ℕ) → slice_get ks k ≢ Some g
absent_at eq ks g e same k there = true≢false (sym (any_passes_from_place (eq g) ks k g there (same g)) ∙ e)

-- an `And` gate stands once, in whichever order its operands are named
module _ (gates : List Gate) (s : IsSharing gates) (low high : Wire) (order : low.0 ≤ high.0) where
  -- an `And` gate over two wires has them in order
  in_order : (k : ℕ) → IsAndOver gates low high k → slice_get gates k ≡ Some (And low high)
  in_order k h = elim h [
    | inl e ↦ e
    | inr e ↦
        let back = s.sorted k high low e in
        let same : low ≡ high = λ i. record { 0 = (let n : low.0 ≡ high.0 = omega arith in n) i } in
        e ∙ ap (λ w. Some (And w low)) (sym same) ∙ ap (λ w. Some (And low w)) same
  ]

  -- there is one `And` gate over two wires at most, in either order
  pub one_and : (w k : ℕ) → slice_get gates w ≡ Some (And low high) → IsAndOver gates low high k → w ≡ k
  one_and w k at h = s.once w k (And low high) at (in_order k h)

  -- where the one with its wires in order doesn't stand, neither does the other
  pub no_and : ((k : ℕ) → slice_get gates k ≢ Some (And low high)) → (k : ℕ) → IsAndOver gates low high k → ⊥
  no_and none k h = none k (in_order k h)
