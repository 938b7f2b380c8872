use Rattle.std.proofs.lemmas.Result.{IfOk-weaker}
use Rattle.order_encode.proofs.GoalLaws.{not_is, tells_same}
use Rattle.order_encode.proofs.GrowthLaws.{◌>>◌}
use Rattle.order_encode.proofs.known.unlike.Goals as goal

pub returns-clause-exact : goal.returns-clause-exact
returns-clause-exact c = IfOk-weaker c.not.result _ _ (λ w is v o u one other. tells_same (is.means v) (not_is _ (c.in_ok-same.ensures.exact v o u one other))) c.not.ensures.gives

pub returns-clause-grows : goal.returns-clause-grows
returns-clause-grows c = c.alike.ensures.grows >> c.not.ensures.grows
