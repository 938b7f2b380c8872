use Rattle.compiled_catalog.proofs.SoundLaws.{are_sound}
use Rattle.compiled_catalog.proofs.laws.compiled_attributes_are_sound.Goals as goal

pub returns : goal.returns
returns c = are_sound c.names_in_order.ensures c.relations_are_references.ensures
