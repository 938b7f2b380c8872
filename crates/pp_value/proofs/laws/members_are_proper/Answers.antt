use Rattle.pp_value.proofs.ProperResults.{index_proper}
use Rattle.pp_value.proofs.laws.members_are_proper.Goals as goal

pub returns : goal.returns
returns c = index_proper
