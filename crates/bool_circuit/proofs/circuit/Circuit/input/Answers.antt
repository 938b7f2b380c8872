use Rattle.std.proofs.Common.{List, slice_get, Some, subst, sym, ap, ◌∙◌, ◌≡◌, ◌+◌, arith}
use Rattle.bool_circuit.specs.declared.gate.Gate.{Gate}
use Rattle.bool_circuit.specs.declared.gate.Gate.TheVariants.{Input}
use Rattle.bool_circuit.specs.Placed.{IsPlaced}
use Rattle.bool_circuit.specs.Gates.{input_count}
use Rattle.bool_circuit.proofs.Growth.{placed_input_sharing, placed_input_count, placed_grows, input_count_within, value_in}
use Rattle.bool_circuit.proofs.circuit.Circuit.input.Goals as goal
use Rattle.bool_circuit.proofs.circuit.Circuit.input.Goals.{In_ok-w}

-- the gate that was placed is the next input
is_placed : (c : In_ok-w) → IsPlaced c.self.inside.gates.keys (Input (input_count c.self.inside.gates.keys)) c.place.new.gates.keys
is_placed c = subst (λ n. IsPlaced c.self.inside.gates.keys (Input n) c.place.new.gates.keys) c.self.invariant.1 c.in_ok-w.ensures.placed

-- it stands at the wire that is returned
stands : (c : In_ok-w) → slice_get c.place.new.gates.keys c.in_ok-w.w ≡ Some (Input (input_count c.self.inside.gates.keys))
stands c = c.in_ok-w.ensures.stands ∙ ap (λ n. Some (Input n)) c.self.invariant.1

-- there is one input more
counted : (c : In_ok-w) → input_count c.place.new.gates.keys ≡ c.self.inside.inputs + 1
counted c = placed_input_count c.self.inside.gates.keys c.place.new.gates.keys c.in_ok-w.w c.self.invariant.0 (is_placed c) (stands c) ∙ ap (λ n. n + 1) (sym c.self.invariant.1)

pub overflow_add-self : goal.overflow_add-self
overflow_add-self c =
    let e = counted (goal.at.overflow_add-self c).In_ok-w in
    let l = input_count_within c.place.new.gates.keys in
    let s = c.in_ok-w.ensures.small in
    omega arith

pub invariant_of-self-2 : goal.invariant_of-self-2
invariant_of-self-2 c =
    (placed_input_sharing c.self.inside.gates.keys c.place.new.gates.keys c.in_ok-w.w c.self.invariant.0 (is_placed (goal.at.invariant_of-self-2 c).In_ok-w) (stands (goal.at.invariant_of-self-2 c).In_ok-w), sym (counted (goal.at.invariant_of-self-2 c).In_ok-w))

pub returns-clause-value : goal.returns-clause-value
returns-clause-value c inputs =
    let old = c.self.inside.gates.keys in
    let new = c.place.new.gates.keys in
    value_in old new c.in_ok-w.w (Input (input_count old)) (placed_input_sharing old new c.in_ok-w.w c.self.invariant.0 (is_placed (goal.at.returns-clause-value c).In_ok-w) (stands (goal.at.returns-clause-value c).In_ok-w)) (placed_grows old (Input (input_count old)) new (is_placed (goal.at.returns-clause-value c).In_ok-w)) tt (stands (goal.at.returns-clause-value c).In_ok-w) inputs
    ∙ ap (λ (gs : List Gate). inputs (input_count gs)) c.self.view_is
