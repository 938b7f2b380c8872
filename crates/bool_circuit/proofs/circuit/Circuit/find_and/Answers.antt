use Rattle.std.proofs.Common.{ℕ, Bool, List, ◌≡◌, ◌&&◌, IfSome, subst}
use Rattle.std.proofs.lemmas.Option.{IfSome_then}
use Rattle.bool_circuit.specs.declared.gate.Gate.{Gate}
use Rattle.bool_circuit.specs.declared.gate.Gate.TheVariants.{And}
use Rattle.bool_circuit.specs.Gates.{wire_value, IsAndOver}
use Rattle.bool_circuit.proofs.Values.{value_at}
use Rattle.bool_circuit.proofs.Place.{one_and}
use Rattle.bool_circuit.proofs.circuit.Circuit.find_and.Goals as goal

pub returns-clause-value : goal.returns-clause-value
returns-clause-value c =
    let P = λ (gs : List Gate). IfSome c.find.result (λ w. (inputs : ℕ → Bool) → wire_value gs inputs w.0 ≡ (wire_value gs inputs c.args.low.0 && wire_value gs inputs c.args.high.0)) in
    subst P c.self.view_is (IfSome_then c.find.result c.find.ensures.found (λ w at. value_at c.self.inside.gates.keys w.0 (And c.args.low c.args.high) c.self.invariant.0.circuit at))

pub returns-clause-one : goal.returns-clause-one
returns-clause-one c =
    let P = λ (gs : List Gate). IfSome c.find.result (λ w. (k : ℕ) → IsAndOver gs c.args.low c.args.high k → w.0 ≡ k) in
    subst P c.self.view_is (IfSome_then c.find.result c.find.ensures.found (λ w at k. one_and c.self.inside.gates.keys c.self.invariant.0 c.args.low c.args.high c.requires w.0 k at))
