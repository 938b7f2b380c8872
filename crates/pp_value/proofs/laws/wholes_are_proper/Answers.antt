use Rattle.pp_value.proofs.ProperResults.{list_proper, map_proper}
use Rattle.pp_value.proofs.laws.wholes_are_proper.Goals as goal

pub returns-clause-lists : goal.returns-clause-lists
returns-clause-lists c = list_proper

pub returns-clause-maps : goal.returns-clause-maps
returns-clause-maps c = map_proper
