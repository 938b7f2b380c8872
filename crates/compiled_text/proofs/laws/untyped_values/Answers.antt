use Rattle.compiled_text.proofs.ValueLaws.{untyped}
use Rattle.compiled_text.proofs.laws.untyped_values.Goals as goal

pub returns : goal.returns
returns c = untyped
