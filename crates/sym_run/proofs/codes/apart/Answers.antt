use Rattle.std.proofs.Common.{◌<◌, ap, ◌∙◌, subst, List, length}
use Rattle.std.specs.List.{AllByRecursion}
use Rattle.bool_circuit.specs.declared.gate.Wire.{Wire}
use Rattle.sym_run.specs.Wires.{number}
use Rattle.sym_run.proofs.CircuitLaws.{number_snoc, wires_front, wires_last}
use Rattle.sym_run.proofs.codes.apart.Goals as goal

pub returns-in-Some-clause-value : goal.returns-in-Some-clause-value
returns-in-Some-clause-value c = λ values off. ap (number values) c.in-Some.ensures.cases.0 ∙ number_snoc values c.in-Some.front.now c.in-Some.last.now

pub returns-in-Some-clause-front : goal.returns-in-Some-clause-front
returns-in-Some-clause-front c = let n = length c.args.circuit.now in
    wires_front n c.in-Some.front.now c.in-Some.last.now (subst (λ (ws : List Wire). AllByRecursion (λ w. w.0 < length c.args.circuit.now) ws) c.in-Some.ensures.cases.0 c.requires.own)

pub returns-in-Some-clause-last : goal.returns-in-Some-clause-last
returns-in-Some-clause-last c = let n = length c.args.circuit.now in
    wires_last n c.in-Some.front.now c.in-Some.last.now (subst (λ (ws : List Wire). AllByRecursion (λ w. w.0 < length c.args.circuit.now) ws) c.in-Some.ensures.cases.0 c.requires.own)
