use Rattle.compiled_attributes.proofs.SortedLaws.{in_order}
use Rattle.compiled_attributes.proofs.laws.names_in_order.Goals as goal

pub returns : goal.returns
returns c = in_order
