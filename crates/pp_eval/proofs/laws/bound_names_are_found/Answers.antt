use Rattle.pp_eval.proofs.BindingLaws.{is_found}
use Rattle.pp_eval.proofs.laws.bound_names_are_found.Goals as goal

pub returns : goal.returns
returns c = is_found
