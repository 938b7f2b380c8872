use Rattle.pp_eval.proofs.WithinLimit.{stays_within}
use Rattle.pp_eval.proofs.laws.values_stay_within.Goals as goal

pub returns : goal.returns
returns c = stays_within c.members_stay_within.ensures
