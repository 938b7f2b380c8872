use Rattle.std.proofs.Common.{Some, refl, ap, sym, subst}
use Rattle.std.proofs.lemmas.Result.{IfOk-weaker}
use Rattle.fs_interpreter.specs.States.{state_of}
use Rattle.fs_interpreter.specs.Standing.{StandsFor}
use Rattle.sym_run.specs.Wires.{circuit_meanings}
use Rattle.order_encode.specs.Plans.{Scheduled, end_of}
use Rattle.order_encode.specs.Told.{wanted_told}
use Rattle.order_encode.proofs.GoalLaws.{tells_same}
use Rattle.order_encode.proofs.GrowthLaws.{◌>>◌}
use Rattle.order_encode.proofs.MissingLaws.{misses_is}
use Rattle.order_encode.proofs.missing.misses.Goals as goal

pub returns-clause-exact : goal.returns-clause-exact
returns-clause-exact c = IfOk-weaker c.lack.result _ _ (λ w is v t h.
    let table_is = ap (λ (s : Scheduled). s.domain.table) c.schedule.view_is in
    let table = c.schedule.inside.domain.now.table in
    let made = c.in_ok-made.made in
    let state = state_of (circuit_meanings c.run_known.new.sym) v made in
    let o = end_of c.args.schedule.now t in
    let stands = subst (λ t. StandsFor t state o) (sym table_is) (c.in_ok-made.ensures.stands v (Some t) h) in
    let found = c.searches.ensures in
    let has = wanted_told table c.args.wanted.now state.cell in
    let exact = misses_is found.path found.no_path found.content found.no_content table c.is_table.ensures state c.args.wanted.now o has stands refl in
    tells_same (is.means v) exact) c.lack.ensures.gives

pub returns-clause-grows : goal.returns-clause-grows
returns-clause-grows c = c.run_known.ensures.grows >> c.lack.ensures.grows
