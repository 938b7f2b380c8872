use Rattle.std.proofs.Common.{List, length, subst, sym, ◌∙◌}
use Rattle.bool_circuit.specs.declared.gate.Gate.{Gate}
use Rattle.bool_circuit.specs.Gates.{OperandsBelow}
use Rattle.bool_circuit.proofs.Growth.{placed_sharing, placed_inputs}
use Rattle.bool_circuit.proofs.circuit.Circuit.add.Goals as goal

pub invariant_of-self-2 : goal.invariant_of-self-2
invariant_of-self-2 c =
    let old = c.self.inside.gates.keys in
    let below = subst (λ (gs : List Gate). OperandsBelow (length gs) c.args.g) (sym c.self.view_is) c.requires.operands in (
      placed_sharing old c.args.g c.place.new.gates.keys c.in_ok-w.ensures.placed c.self.invariant.0 below c.requires.operation,
      c.self.invariant.1 ∙ sym (placed_inputs old c.args.g c.place.new.gates.keys c.in_ok-w.ensures.placed c.requires.operation),
    )
