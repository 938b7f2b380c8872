use Rattle.compiled_relations.proofs.NameLaws.{found_by_name}
use Rattle.compiled_relations.proofs.laws.resources_are_found.Goals as goal

pub returns : goal.returns
returns c = found_by_name
