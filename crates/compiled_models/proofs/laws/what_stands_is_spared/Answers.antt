use Rattle.compiled_models.proofs.SparedLaws.{spared}
use Rattle.compiled_models.proofs.laws.what_stands_is_spared.Goals as goal

pub returns : goal.returns
returns c = spared
