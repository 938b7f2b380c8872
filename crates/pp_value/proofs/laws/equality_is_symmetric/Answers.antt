use Rattle.pp_value.proofs.Symmetry.{symmetric}
use Rattle.pp_value.proofs.laws.equality_is_symmetric.Goals as goal

pub returns : goal.returns
returns c = symmetric
