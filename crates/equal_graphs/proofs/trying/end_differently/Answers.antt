use Rattle.equal_graphs.proofs.TryLaws.{apart_is}
use Rattle.equal_graphs.proofs.trying.end_differently.Goals as goal

pub returns : goal.returns
returns c = apart_is c.same_outcome.result _ _ _ _ c.in_ok-one.ensures c.in_ok-second.ensures c.same_outcome.ensures
