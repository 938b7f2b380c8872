use Rattle.std.proofs.Common.{Some, sym, ap, subst, ◌∙◌}
use Rattle.std.proofs.lemmas.Result.{IfOk-weaker}
use Rattle.path_domain.specs.declared.listed.Domain.{Domain}
use Rattle.fs_interpreter.specs.States.{state_of}
use Rattle.fs_interpreter.specs.Standing.{StandsFor}
use Rattle.fs_interpreter.proofs.Frames.{cells_stay}
use Rattle.sym_run.specs.Wires.{circuit_meanings}
use Rattle.order_encode.specs.Plans.{Scheduled, end_of}
use Rattle.order_encode.proofs.GrowthLaws.{◌>>◌, still_stands}
use Rattle.order_encode.proofs.parting.parts.Goals as goal

pub returns-clause-exact : goal.returns-clause-exact
returns-clause-exact c = IfOk-weaker c.unlike.result _ _ (λ w is v t h.
    let m2 = circuit_meanings c.run_known-2.new.sym in
    let table = c.args.left.now.domain.table in
    let o = end_of c.args.left.now t in
    let u = end_of c.args.right.now t in
    let left_is = ap (λ (s : Scheduled). s.domain.table) c.left.view_is in
    let right_is = ap (λ (d : Domain). d.table) c.requires.domain in
    let start = still_stands table (Some t) c.run_known.ensures.grows c.requires.cells v h in
    let one = still_stands table o c.run_known-2.ensures.grows c.in_ok-one.ensures.cells v (c.in_ok-one.ensures.stands v (Some t) h) in
    let second = c.in_ok-second.ensures.stands v (Some t) (subst (λ l. StandsFor l (state_of (circuit_meanings c.run_known.new.sym) v c.args.start.now) (Some t)) right_is start) in
    is v o u (subst (λ l. StandsFor l (state_of m2 v c.in_ok-one.one) o) (sym left_is) one)
    (subst (λ l. StandsFor l (state_of m2 v c.in_ok-second.second) u) (sym (left_is ∙ right_is)) second)) c.unlike.ensures.exact

pub returns-in_err-second-clause-grows : goal.returns-in_err-second-clause-grows
returns-in_err-second-clause-grows c = c.run_known.ensures.grows >> c.run_known-2.ensures.grows

pub returns-clause-grows : goal.returns-clause-grows
returns-clause-grows c = c.run_known.ensures.grows >> c.run_known-2.ensures.grows >> c.unlike.ensures.grows

pub run_known-requires-2-clause-cells : goal.run_known-requires-2-clause-cells
run_known-requires-2-clause-cells c = cells_stay _ _ _ c.run_known.ensures.grows c.requires.cells

pub unlike-requires-clause-a : goal.unlike-requires-clause-a
unlike-requires-clause-a c = cells_stay _ _ _ c.run_known-2.ensures.grows c.in_ok-one.ensures.cells
