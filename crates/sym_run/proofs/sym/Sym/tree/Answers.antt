use Rattle.std.proofs.Common.{◌≡◌, length, sym, subst}
use Rattle.bool_circuit.specs.Gates.{truth_at, wire_values}
use Rattle.fs_interpreter.specs.States.{State}
use Rattle.fs_interpreter.specs.Standing.{Stands}
use Rattle.sym_run.proofs.ReadLaws.{told_as, told_cells}
use Rattle.sym_run.proofs.sym.Sym.tree.Goals as goal
use Rattle.fs_interpreter.proofs.HasLaws.{if_ok}

pub tree_by-requires-clause-cells : goal.tree_by-requires-clause-cells
tree_by-requires-clause-cells c =
    let view = c.self.view_is in
    let long = c.in_ok-values.ensures.long in
    let lent = c.deref.ensures.value in
    let same : length c.deref.result.now ≡ length c.args.self.now = cc in
    told_cells c.args.self.now c.deref.result.now c.args.state.now same c.requires.cells

pub tree_by-requires-clause-stands : goal.tree_by-requires-clause-stands
tree_by-requires-clause-stands c =
    let view = c.self.view_is in
    let values = c.in_ok-values.ensures.values in
    let lent = c.deref.ensures.value in
    let same : c.deref.result.now ≡ wire_values (truth_at c.args.inputs.now) c.args.self.now = cc in
    let told = told_as c.args.self.now c.args.inputs.now c.deref.result.now c.args.state.now same in
    let t = c.requires.stands in
    (t.0, subst (λ (s : State). Stands c.args.domain.now.table s t.0) (sym told) t.2, record { no_root = t.1.no_root; parents = t.1.parents })

pub returns : goal.returns
returns c =
    let view = c.self.view_is in
    let values = c.in_ok-values.ensures.values in
    let lent = c.deref.ensures.value in
    let same : c.deref.result.now ≡ wire_values (truth_at c.args.inputs.now) c.args.self.now = cc in
    let told = told_as c.args.self.now c.args.inputs.now c.deref.result.now c.args.state.now same in
    if_ok _ _ c.tree_by.result (λ tree stands. subst (λ (s : State). Stands c.args.domain.now.table s tree) told stands) c.tree_by.ensures
