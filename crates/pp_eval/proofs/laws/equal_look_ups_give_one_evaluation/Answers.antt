use Rattle.pp_eval.proofs.Agreement.{one_evaluation}
use Rattle.pp_eval.proofs.laws.equal_look_ups_give_one_evaluation.Goals as goal

pub returns : goal.returns
returns c = one_evaluation
