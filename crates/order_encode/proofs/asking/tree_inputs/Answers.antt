use Rattle.std.proofs.Common.{false}
use Rattle.order_encode.proofs.asking.tree_inputs.Goals as goal

pub returns-clause-every : goal.returns-clause-every
returns-clause-every c = λ t over. let told = c.in_ok-cells.ensures.every (λ i. false) t over in (told.0, told.2)
