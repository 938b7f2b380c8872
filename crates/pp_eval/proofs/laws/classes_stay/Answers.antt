use Rattle.pp_eval.specs.Growing.{class_stays}
use Rattle.pp_eval.proofs.laws.classes_stay.Goals as goal

pub returns : goal.returns
returns c = class_stays
