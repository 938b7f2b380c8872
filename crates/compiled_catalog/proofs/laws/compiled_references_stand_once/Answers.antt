use Rattle.compiled_catalog.proofs.SoundLaws.{stand_once}
use Rattle.compiled_catalog.proofs.laws.compiled_references_stand_once.Goals as goal

pub returns : goal.returns
returns c = stand_once
