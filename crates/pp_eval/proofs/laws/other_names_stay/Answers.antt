use Rattle.pp_eval.proofs.BindingLaws.{others_stay}
use Rattle.pp_eval.proofs.laws.other_names_stay.Goals as goal

pub returns : goal.returns
returns c = others_stay
