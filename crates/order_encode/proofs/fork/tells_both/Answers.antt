use Rattle.order_encode.proofs.GrowthLaws.{◌>>◌}
use Rattle.order_encode.proofs.fork.tells_both.Goals as goal

pub returns-in_err-other-clause-grows : goal.returns-in_err-other-clause-grows
returns-in_err-other-clause-grows c = c.tells.ensures.grows >> c.tells-2.ensures.grows

pub returns-clause-grows : goal.returns-clause-grows
returns-clause-grows c = c.tells.ensures.grows >> c.tells-2.ensures.grows >> c.and.ensures.grows
