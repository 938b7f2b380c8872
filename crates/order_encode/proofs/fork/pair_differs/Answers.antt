use Rattle.std.proofs.Common.{ap, ◌∙◌}
use Rattle.std.proofs.lemmas.Result.{IfOk-weaker}
use Rattle.std.specs.Prelude.{◌&&◌}
use Rattle.bool_circuit.specs.Gates.{wire_value}
use Rattle.fs_interpreter.proofs.Frames.{cells_stay}
use Rattle.order_circuit.specs.Codes.{node}
use Rattle.order_encode.specs.Goals.{are_these}
use Rattle.order_encode.proofs.GoalLaws.{tells_same}
use Rattle.order_encode.proofs.ForkLaws.{both_is}
use Rattle.order_encode.proofs.GrowthLaws.{◌>>◌, still_stands}
use Rattle.order_encode.proofs.fork.pair_differs.Goals as goal

pub differ-requires-clause-cells : goal.differ-requires-clause-cells
differ-requires-clause-cells c = cells_stay _ _ _ c.tells_pair.ensures.grows c.requires.fork.cells

pub returns-clause-exact : goal.returns-clause-exact
returns-clause-exact c = IfOk-weaker c.and.result _ _ (λ w is v o h.
    let table = c.args.plan.now.domain.table in
    let i = c.args.nodes.one in
    let k = c.args.nodes.other in
    let g0 = c.args.sym.now in
    let s2 = c.differ.new.sym in
    let these = are_these i k (node g0 v c.args.fork.now.first.now) (node g0 v c.args.fork.now.second.now) in
    let b = wire_value s2 v c.in_ok-apart.apart.0 in
    let h1 = still_stands table o c.tells_pair.ensures.grows c.requires.fork.cells v h in
    let told = c.differ.ensures.grows.bit c.in_ok-told.told c.in_ok-told.ensures.wire v ∙ c.in_ok-told.ensures.value v in
    let exact = both_is these b (c.in_ok-apart.ensures.exact v o h1) in
    let whole = is.means v ∙ ap (λ a. a && b) told in
    tells_same whole exact) c.and.ensures.gives

pub returns-in_err-apart-clause-grows : goal.returns-in_err-apart-clause-grows
returns-in_err-apart-clause-grows c = c.tells_pair.ensures.grows >> c.differ.ensures.grows

pub returns-clause-grows : goal.returns-clause-grows
returns-clause-grows c = c.tells_pair.ensures.grows >> c.differ.ensures.grows >> c.and.ensures.grows
