use Rattle.pp_value.proofs.LimitLaws.{member_within}
use Rattle.pp_value.proofs.laws.members_stay_within.Goals as goal

pub returns : goal.returns
returns c = member_within
