use Rattle.pp_data.proofs.LookupLaws.{found_proper}
use Rattle.pp_data.proofs.laws.found_values_are_proper.Goals as goal

pub returns : goal.returns
returns c = found_proper
