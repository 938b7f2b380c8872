use Rattle.std.proofs.Common.{List, take, sym, ap, subst, ◌∙◌}
use Rattle.std.proofs.lemmas.Result.{IfOk-weaker}
use Rattle.bool_circuit.specs.declared.gate.Gate.{Gate}
use Rattle.bool_circuit.specs.Gates.{truth_at, wire_value, wire_values, input_count, IsCircuit}
use Rattle.cnf.specs.Formulas.{Satisfies, valuation_of}
use Rattle.cnf.specs.Encoding.{inputs_in}
use Rattle.fs_interpreter.specs.States.{State, state_of}
use Rattle.fs_interpreter.specs.Standing.{Stands}
use Rattle.order_encode.specs.Asked.{Asked, AreSmallBy, IsReadable, IsReadAs, CanShow}
use Rattle.order_encode.specs.declared.question.Posed.{Posed}
use Rattle.path_domain.specs.declared.listed.Domain.{Domain}
use Rattle.sym_run.specs.Wires.{circuit_meanings}
use Rattle.order_encode.proofs.ReadLaws.{model_values, model_state}
use Rattle.order_encode.proofs.question.Question.read.Goals as goal

pub tree-requires-clause-stands : goal.tree-requires-clause-stands
tree-requires-clause-stands c =
    let q = c.self.inside in
    let p = c.get-posed.result.now in
    let model = c.args.model.now in
    let inputs = c.inputs_of-inputs.ensures.inputs ∙ ap (λ g. take (input_count g) model) c.circuit.ensures in
    let same = ap (λ xs. wire_value p.sym (truth_at xs)) inputs ∙ model_values p.sym model (subst IsCircuit c.circuit.ensures c.inputs_of-inputs.ensures.circuit) in
    let told = c.self.invariant.readable (valuation_of model) (subst (λ (x : Asked (List Gate)). Satisfies (valuation_of model) x.formula.clauses) (sym c.self.view_is) c.requires.model) in
    let read = subst (λ (r : Posed). IsReadable r.sym q.domain.table r.cells r.asks (inputs_in (valuation_of model))) (sym c.get-posed.ensures) told in
    let stands = subst (λ (s : State). Stands q.domain.table s read.tree) (sym (model_state p.sym (truth_at c.inputs_of-inputs.result.now) (inputs_in (valuation_of model)) p.cells same)) read.stands in
    (read.tree, read.is_tree, subst (λ (d : Domain). Stands d.table (state_of (circuit_meanings p.sym) (truth_at c.inputs_of-inputs.result.now) p.cells) read.tree) (sym c.get.ensures) stands)

pub witness_by-requires-clause-small : goal.witness_by-requires-clause-small
witness_by-requires-clause-small c =
    let q = c.self.inside in
    let p = c.get-posed.result.now in
    let model = c.args.model.now in
    let u = truth_at c.inputs_of-inputs.result.now in
    let inputs = c.inputs_of-inputs.ensures.inputs ∙ ap (λ g. take (input_count g) model) c.circuit.ensures in
    let same = ap (λ xs. wire_value p.sym (truth_at xs)) inputs ∙ model_values p.sym model (subst IsCircuit c.circuit.ensures c.inputs_of-inputs.ensures.circuit) in
    let holds = c.self.invariant.readable (valuation_of model) (subst (λ (x : Asked (List Gate)). Satisfies (valuation_of model) x.formula.clauses) (sym c.self.view_is) c.requires.model) in
    let read = subst (λ (r : Posed). IsReadable r.sym q.domain.table r.cells r.asks (inputs_in (valuation_of model))) (sym c.get-posed.ensures) holds in
    let told = ap truth_at (c.deref.ensures.value ∙ c.in_ok-values.ensures.values ∙ ap (wire_values u) c.circuit-2.ensures) ∙ same in
    subst (λ f. AreSmallBy f p.asks) (sym told) read.small

pub returns : goal.returns
returns c = IfOk-weaker c.witness_by.result _ _ (λ w is.
    let q = c.self.inside in
    let p = c.get-posed.result.now in
    let posed = c.get-posed.ensures in
    let model = c.args.model.now in
    let u = truth_at c.inputs_of-inputs.result.now in
    let v = inputs_in (valuation_of model) in
    let inputs = c.inputs_of-inputs.ensures.inputs ∙ ap (λ g. take (input_count g) model) c.circuit.ensures in
    let same = ap (λ xs. wire_value p.sym (truth_at xs)) inputs ∙ model_values p.sym model (subst IsCircuit c.circuit.ensures c.inputs_of-inputs.ensures.circuit) in
    let told = ap truth_at (c.deref.ensures.value ∙ c.in_ok-values.ensures.values ∙ ap (wire_values u) c.circuit-2.ensures) ∙ same in
    let tree = c.in_ok-tree.tree in
    let read = subst (λ (d : Domain). Stands d.table (state_of (circuit_meanings p.sym) u p.cells) tree) c.get.ensures c.in_ok-tree.ensures in
    let stands = subst (λ (s : State). Stands q.domain.table s tree) (model_state p.sym u v p.cells same) read in
    let holds = subst (λ (x : Asked (List Gate)). Satisfies (valuation_of model) x.formula.clauses) (sym c.self.view_is) c.requires.model in
    let shown : CanShow {B = List Gate} (record { gates = p.sym; table = q.domain.table; cells = p.cells; asks = p.asks; formula = q.cnf }) w = (valuation_of model, holds, (tree, stands, subst (λ f. IsReadAs f p.asks tree w) told is)) in
    subst (λ (x : Asked (List Gate)). CanShow x w) ((λ i. record { gates = (posed i).sym; table = q.domain.table; cells = (posed i).cells; asks = (posed i).asks; formula = q.cnf }) ∙ c.self.view_is) shown) c.witness_by.ensures
