use Rattle.pp_eval.proofs.BindingLaws.{facts_there}
use Rattle.pp_eval.proofs.laws.facts_are_found.Goals as goal

pub returns : goal.returns
returns c = facts_there
