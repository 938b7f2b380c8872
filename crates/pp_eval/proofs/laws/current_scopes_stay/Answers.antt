use Rattle.pp_eval.specs.Growing.{inner_stays}
use Rattle.pp_eval.proofs.laws.current_scopes_stay.Goals as goal

pub returns : goal.returns
returns c = inner_stays
