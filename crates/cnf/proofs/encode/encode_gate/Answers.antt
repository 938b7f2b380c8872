use Rattle.std.proofs.Common.{◌<◌, ◌+◌, true, refl, subst, sym, ap, ◌∙◌, ◌≡◌}
use Rattle.bool_circuit.specs.declared.gate.Gate.{Gate}
use Rattle.bool_circuit.specs.Gates.{PlaceBelow}
use Rattle.cnf.specs.declared.lit.Lit.{Lit}
use Rattle.cnf.specs.Literals.{lit_true, opposite, HasVariable}
use Rattle.cnf.specs.Defining.{Defines, lits_value, lit_at, HaveVariables}
use Rattle.cnf.proofs.Wires.{input_defines, not_defines}
use Rattle.cnf.proofs.encode.encode_gate.Goals as goal

pub returns-in-Input : goal.returns-in-Input
returns-in-Input c =
    let f = c.args.cnf.now in
    let i = c.in-Input.i in
    let place : i < f.vars = subst (PlaceBelow f.vars) c.in-Input.is c.requires.place in
    subst (λ (g : Gate). Defines f f (record { var = i + 1; positive = true }) (lits_value c.args.lits.now g)) (sym c.in-Input.is) (input_defines f i c.args.lits.now place)

pub returns-in-Not : goal.returns-in-Not
returns-in-Not c =
    let f = c.args.cnf.now in
    let a = c.in-Not.a in
    let lits = c.args.lits.now in
    let variable : HasVariable f.vars (lit_at lits a.0) = subst (HaveVariables f.vars lits) c.in-Not.is c.requires.variables in
    let is : c.opposite.result ≡ opposite (lit_at lits a.0) = c.opposite.ensures ∙ ap opposite c.lit_at.ensures in
    subst (λ (x : Lit). Defines f f x (lits_value lits c.args.gate)) (sym is)
    (subst (λ (g : Gate). Defines f f (opposite (lit_at lits a.0)) (lits_value lits g)) (sym c.in-Not.is)
    (not_defines f (lit_at lits a.0) (λ v. lit_true v (lit_at lits a.0)) variable (λ v. refl)))
