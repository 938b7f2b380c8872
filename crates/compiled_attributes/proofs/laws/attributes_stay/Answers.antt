use Rattle.compiled_attributes.proofs.StayLaws.{stays}
use Rattle.compiled_attributes.proofs.laws.attributes_stay.Goals as goal

pub returns : goal.returns
returns c = stays
