use Rattle.pp_data.proofs.LookupLaws.{silent}
use Rattle.pp_data.proofs.laws.others_are_silent.Goals as goal

pub returns : goal.returns
returns c = silent
