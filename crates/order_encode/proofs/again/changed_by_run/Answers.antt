use Rattle.std.proofs.Common.{ap, sym, subst}
use Rattle.std.proofs.lemmas.Result.{IfOk-weaker}
use Rattle.fs_semantics.specs.Programs.{and_then}
use Rattle.fs_interpreter.specs.States.{state_of}
use Rattle.fs_interpreter.specs.Standing.{StandsFor}
use Rattle.fs_interpreter.proofs.Frames.{cells_stay}
use Rattle.sym_run.specs.Wires.{circuit_meanings}
use Rattle.order_encode.specs.Plans.{Scheduled, end_of}
use Rattle.order_encode.proofs.GrowthLaws.{◌>>◌, still_stands}
use Rattle.order_encode.proofs.again.changed_by_run.Goals as goal

pub unlike-requires-clause-a : goal.unlike-requires-clause-a
unlike-requires-clause-a c = cells_stay _ _ _ c.run_known.ensures.grows c.requires.cells

pub returns-clause-exact : goal.returns-clause-exact
returns-clause-exact c = IfOk-weaker c.unlike.result _ _ (λ w is v o h.
    let table = c.args.schedule.now.domain.table in
    let cells = c.args.cells.now in
    let left = c.in_ok-left.left in
    let m = circuit_meanings c.run_known.new.sym in
    let end = and_then o (end_of c.args.schedule.now) in
    let before = still_stands table o c.run_known.ensures.grows c.requires.cells v h in
    let behind = c.in_ok-left.ensures.stands v o h in
    let table_is = ap (λ (s : Scheduled). s.domain.table) c.schedule.view_is in
    is v o end (subst (λ t. StandsFor t (state_of m v cells) o) (sym table_is) before) (subst (λ t. StandsFor t (state_of m v left) end) (sym table_is) behind)) c.unlike.ensures.exact

pub returns-clause-grows : goal.returns-clause-grows
returns-clause-grows c = c.run_known.ensures.grows >> c.unlike.ensures.grows
