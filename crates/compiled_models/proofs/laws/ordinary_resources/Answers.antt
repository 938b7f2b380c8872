use Rattle.compiled_models.proofs.AlikeLaws.{one_alike, all_alike}
use Rattle.compiled_models.proofs.laws.ordinary_resources.Goals as goal

pub returns-clause-one : goal.returns-clause-one
returns-clause-one c = one_alike

pub returns-clause-all : goal.returns-clause-all
returns-clause-all c = all_alike c.edits_are_lost.ensures.nothing
