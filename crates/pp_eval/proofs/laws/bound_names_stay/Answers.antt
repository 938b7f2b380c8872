use Rattle.pp_eval.specs.Growing.{bound_stays}
use Rattle.pp_eval.proofs.laws.bound_names_stay.Goals as goal

pub returns : goal.returns
returns c = bound_stays
