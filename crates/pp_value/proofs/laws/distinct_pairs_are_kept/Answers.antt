use Rattle.pp_value.proofs.Distinct.{made_again}
use Rattle.pp_value.proofs.laws.distinct_pairs_are_kept.Goals as goal

pub returns : goal.returns
returns c = made_again
