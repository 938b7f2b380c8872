use Rattle.compiled_relations.proofs.PathLaws.{alike}
use Rattle.compiled_relations.proofs.laws.paths_are_written_alike.Goals as goal

pub returns : goal.returns
returns c = alike
