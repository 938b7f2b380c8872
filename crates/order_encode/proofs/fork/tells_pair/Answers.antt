use Rattle.order_encode.proofs.GrowthLaws.{◌>>◌}
use Rattle.order_encode.proofs.fork.tells_pair.Goals as goal

pub returns-in_err-backward-clause-grows : goal.returns-in_err-backward-clause-grows
returns-in_err-backward-clause-grows c = c.tells_both.ensures.grows >> c.tells_both-2.ensures.grows

pub returns-clause-grows : goal.returns-clause-grows
returns-clause-grows c = c.tells_both.ensures.grows >> c.tells_both-2.ensures.grows >> c.mux.ensures.grows
