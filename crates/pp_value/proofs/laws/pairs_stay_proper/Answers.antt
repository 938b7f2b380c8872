use Rattle.pp_value.proofs.Distinct.{distinct_pairs}
use Rattle.pp_value.proofs.ProperResults.{with_all_proper}
use Rattle.pp_value.proofs.laws.pairs_stay_proper.Goals as goal

pub returns-clause-distinct : goal.returns-clause-distinct
returns-clause-distinct c = distinct_pairs

pub returns-clause-proper : goal.returns-clause-proper
returns-clause-proper c = with_all_proper
