use Rattle.pp_eval.proofs.Inheritance.{stays_before}
use Rattle.pp_eval.proofs.laws.parents_stand_before.Goals as goal

pub returns : goal.returns
returns c = stays_before
