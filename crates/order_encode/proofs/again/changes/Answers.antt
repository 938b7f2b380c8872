use Rattle.std.proofs.Common.{Some, map}
use Rattle.std.proofs.lemmas.Result.{IfOk-weaker}
use Rattle.fs_semantics.specs.Orders.{outcome}
use Rattle.fs_lang.specs.Meaning.{program_of}
use Rattle.order_encode.proofs.GrowthLaws.{◌>>◌}
use Rattle.order_encode.proofs.again.changes.Goals as goal

pub returns-clause-exact : goal.returns-clause-exact
returns-clause-exact c = IfOk-weaker c.tree_changes.result _ _ (λ w is v t h.
    is v (outcome (map program_of c.args.schedule.now.programs) c.args.schedule.now.order t) (c.in_ok-first.ensures.stands v (Some t) h)) c.tree_changes.ensures.exact

pub returns-clause-grows : goal.returns-clause-grows
returns-clause-grows c = c.run_known.ensures.grows >> c.tree_changes.ensures.grows
