use Rattle.std.proofs.Common.{◌≡◌, ◌≤◌, true, List, sym, ap, subst, subst₂, ◌∙◌}
use Rattle.bool_circuit.specs.declared.gate.Gate.{Gate}
use Rattle.bool_circuit.specs.Gates.{input_count, wire_value}
use Rattle.cnf.specs.Encoding.{StatesGoal, inputs_in}
use Rattle.order_encode.specs.Asked.{Asked, IsAsked}
use Rattle.order_encode.specs.declared.question.Posed.{Posed}
use Rattle.order_encode.proofs.question.pose.Goals as goal

pub invariant_of-result : goal.invariant_of-result
invariant_of-result c =
    let posed = c.in_ok-posed.ensures in
    let table = c.in_ok-domain.ensures in
    let formula = c.in_ok-cnf.ensures in
    let circuit = c.circuit-circuit.ensures ∙ ap (λ (p : Posed). p.sym) (c.get.ensures ∙ posed) in
    let states = c.in_ok-formula.ensures.states in
    let is : IsAsked {B = List Gate} (record { gates = c.args.sym; table = c.args.domain.now.table; cells = c.args.cells; asks = c.args.asks; formula = c.in_ok-formula.formula }) = record {
      cells = c.requires.cells;
      places = c.requires.places;
      codes = c.requires.codes;
      variables = subst (λ gates. input_count gates ≤ c.in_ok-formula.formula.vars) circuit states.variables;
      readable = λ v sat. c.requires.readable (inputs_in v) (subst (λ gates. wire_value gates (inputs_in v) c.args.goal.wire.0 ≡ true) circuit (states.models v sat));
    } in
    let p = sym posed in
    let t = sym table in
    let f = sym formula in
    subst (λ (q : Asked (List Gate)). IsAsked q) (λ i. record { gates = (p i).sym; table = t i; cells = (p i).cells; asks = (p i).asks; formula = f i }) is

pub returns-clause-states : goal.returns-clause-states
returns-clause-states c =
    let circuit = c.circuit-circuit.ensures ∙ ap (λ (p : Posed). p.sym) (c.get.ensures ∙ c.in_ok-posed.ensures) in
    subst₂ (λ gates f. StatesGoal gates c.args.goal.wire.0 f) circuit (sym c.in_ok-cnf.ensures) c.in_ok-formula.ensures.states

pub returns-clause-holds : goal.returns-clause-holds
returns-clause-holds c =
    let p = c.in_ok-posed.ensures in
    let t = c.in_ok-domain.ensures in
    λ i. record { gates = (p i).sym; table = t i; cells = (p i).cells; asks = (p i).asks; formula = c.in_ok-cnf.cnf }
