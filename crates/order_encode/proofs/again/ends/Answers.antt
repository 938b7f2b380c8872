use Rattle.std.proofs.Common.{Some, map}
use Rattle.std.proofs.lemmas.Result.{IfOk-weaker}
use Rattle.fs_semantics.specs.Orders.{outcome}
use Rattle.fs_lang.specs.Meaning.{program_of}
use Rattle.fs_interpreter.specs.States.{state_of}
use Rattle.sym_run.specs.Wires.{circuit_meanings}
use Rattle.order_encode.proofs.GoalLaws.{ends_is, tells_same}
use Rattle.order_encode.proofs.GrowthLaws.{◌>>◌}
use Rattle.order_encode.proofs.again.ends.Goals as goal

pub returns-clause-exact : goal.returns-clause-exact
returns-clause-exact c = IfOk-weaker c.not.result _ _ (λ w is v t h.
    let m1 = circuit_meanings c.run_known.new.sym in
    let exact = ends_is c.args.schedule.now.domain.table (state_of m1 v c.in_ok-made.made) (outcome (map program_of c.args.schedule.now.programs) c.args.schedule.now.order t) (c.in_ok-made.ensures.stands v (Some t) h) in
    tells_same (is.means v) exact) c.not.ensures.gives

pub returns-clause-grows : goal.returns-clause-grows
returns-clause-grows c = c.run_known.ensures.grows >> c.not.ensures.grows
