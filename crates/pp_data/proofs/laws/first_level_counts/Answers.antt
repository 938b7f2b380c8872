use Rattle.pp_data.proofs.LookupLaws.{found_first, found_none}
use Rattle.pp_data.proofs.laws.first_level_counts.Goals as goal

pub returns-clause-some : goal.returns-clause-some
returns-clause-some c = found_first

pub returns-clause-none : goal.returns-clause-none
returns-clause-none c = found_none
