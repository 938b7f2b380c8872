use Rattle.size_limits.proofs.OnceLaws.{one_weight}
use Rattle.size_limits.proofs.laws.weights.Goals as goal

pub returns : goal.returns
returns c = one_weight
