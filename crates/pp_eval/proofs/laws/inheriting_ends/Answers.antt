use Rattle.pp_eval.proofs.Inheritance.{enough}
use Rattle.pp_eval.proofs.laws.inheriting_ends.Goals as goal

pub returns : goal.returns
returns c = enough
