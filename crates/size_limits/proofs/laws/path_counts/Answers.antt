use Rattle.size_limits.proofs.OnceLaws.{one_count}
use Rattle.size_limits.proofs.laws.path_counts.Goals as goal

pub returns : goal.returns
returns c = one_count
