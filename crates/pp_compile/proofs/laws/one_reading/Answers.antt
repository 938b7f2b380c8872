use Rattle.pp_compile.proofs.ReadingLaws.{same_manifest, not_refused}
use Rattle.pp_compile.proofs.laws.one_reading.Goals as goal

pub returns-clause-manifests : goal.returns-clause-manifests
returns-clause-manifests c = same_manifest c.one_spelling.ensures.tokens c.one_manifest.ensures

pub returns-clause-refusals : goal.returns-clause-refusals
returns-clause-refusals c = not_refused c.one_spelling.ensures.tokens c.one_spelling.ensures.either
