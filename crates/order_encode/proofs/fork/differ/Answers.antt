use Rattle.std.proofs.Common.{[], ◌∷◌, map}
use Rattle.std.proofs.lemmas.Result.{IfOk-weaker}
use Rattle.fs_semantics.specs.Programs.{and_then}
use Rattle.fs_semantics.specs.Orders.{outcome}
use Rattle.fs_lang.specs.Meaning.{program_of}
use Rattle.fs_interpreter.proofs.Frames.{cells_stay}
use Rattle.order_encode.proofs.GrowthLaws.{◌>>◌, still_stands}
use Rattle.order_encode.proofs.fork.differ.Goals as goal

pub run_known-requires-2-clause-cells : goal.run_known-requires-2-clause-cells
run_known-requires-2-clause-cells c = cells_stay _ _ _ c.run_known.ensures.grows c.requires.cells

pub unlike-requires-clause-a : goal.unlike-requires-clause-a
unlike-requires-clause-a c = cells_stay _ _ _ c.run_known-2.ensures.grows c.in_ok-one.ensures.cells

pub returns-clause-exact : goal.returns-clause-exact
returns-clause-exact c = rw (← c.plan.view_is) (IfOk-weaker c.unlike.result _ _ (λ w is v o h.
    let table = c.plan.inside.domain.now.table in
    let es = map program_of c.plan.inside.programs.now in
    let i = c.args.nodes.one in
    let k = c.args.nodes.other in
    let forward = and_then o (outcome es (i ∷ k ∷ [])) in
    let backward = and_then o (outcome es (k ∷ i ∷ [])) in
    let one = still_stands table forward c.run_known-2.ensures.grows c.in_ok-one.ensures.cells v (c.in_ok-one.ensures.stands v o h) in
    let other = c.in_ok-other.ensures.stands v o (still_stands table o c.run_known.ensures.grows c.requires.cells v h) in
    is v forward backward one other) c.unlike.ensures.exact)

pub returns-in_err-other-clause-grows : goal.returns-in_err-other-clause-grows
returns-in_err-other-clause-grows c = c.run_known.ensures.grows >> c.run_known-2.ensures.grows

pub returns-clause-grows : goal.returns-clause-grows
returns-clause-grows c = c.run_known.ensures.grows >> c.run_known-2.ensures.grows >> c.unlike.ensures.grows
