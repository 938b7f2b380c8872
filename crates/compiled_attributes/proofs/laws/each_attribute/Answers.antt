use Rattle.compiled_attributes.proofs.AttributeLaws.{each}
use Rattle.compiled_attributes.proofs.laws.each_attribute.Goals as goal

pub returns : goal.returns
returns c = each
