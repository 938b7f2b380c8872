use Rattle.pp_data.proofs.LookupLaws.{applies_where}
use Rattle.pp_data.proofs.laws.facts_decide_what_applies.Goals as goal

pub returns : goal.returns
returns c = applies_where
