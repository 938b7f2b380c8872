use Rattle.std.proofs.Common.{ap, ◌∙◌}
use Rattle.std.proofs.lemmas.Result.{IfOk-weaker}
use Rattle.std.specs.Prelude.{not, ◌&&◌}
use Rattle.bool_circuit.specs.Gates.{wire_value}
use Rattle.fs_interpreter.specs.States.{state_of}
use Rattle.sym_run.specs.Wires.{circuit_meanings}
use Rattle.order_encode.specs.Plans.{end_of}
use Rattle.order_encode.proofs.GoalLaws.{changes_is, tells_same}
use Rattle.order_encode.proofs.GrowthLaws.{◌>>◌}
use Rattle.order_encode.proofs.again.tree_changes.Goals as goal

pub returns-clause-exact : goal.returns-clause-exact
returns-clause-exact c = IfOk-weaker c.and.result _ _ (λ w is v o h.
    let table = c.args.schedule.now.domain.table in
    let cells = c.args.cells.now in
    let m = circuit_meanings c.args.sym.now in
    let g01 = c.changed_by_run.ensures.grows in
    let g12 = c.not.ensures.grows in
    let apart = c.in_ok-other.ensures.exact v o h in
    let exact = changes_is table (state_of m v cells) (end_of c.args.schedule.now) o (wire_value c.changed_by_run.new.sym v c.in_ok-other.other.0) h apart in
    let other = g12.bit c.in_ok-other.other c.in_ok-other.ensures.wire v in
    let ended = c.in_ok-ended.ensures.gives.means v ∙ ap not (g01.bit cells.error c.requires.cells.error v) in
    tells_same (is.means v ∙ (λ i. ended i && other i)) exact) c.and.ensures.gives

pub returns-in_err-ended-clause-grows : goal.returns-in_err-ended-clause-grows
returns-in_err-ended-clause-grows c = c.changed_by_run.ensures.grows >> c.not.ensures.grows

pub returns-clause-grows : goal.returns-clause-grows
returns-clause-grows c = c.changed_by_run.ensures.grows >> c.not.ensures.grows >> c.and.ensures.grows
