use Rattle.pp_value.proofs.ProperResults.{sum_proper}
use Rattle.pp_value.proofs.laws.sums_are_proper.Goals as goal

pub returns : goal.returns
returns c = sum_proper
