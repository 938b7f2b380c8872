use Rattle.compiled_attributes.proofs.StayLaws.{only_relations}
use Rattle.compiled_attributes.proofs.laws.unmodelled_types.Goals as goal

pub returns : goal.returns
returns c = only_relations
