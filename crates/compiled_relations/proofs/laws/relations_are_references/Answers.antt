use Rattle.compiled_relations.proofs.RelationLaws.{becomes}
use Rattle.compiled_relations.proofs.laws.relations_are_references.Goals as goal

pub returns : goal.returns
returns c = becomes
