use Rattle.tree_differences.proofs.ListLaws.{lists_alike, no_difference}
use Rattle.tree_differences.proofs.laws.difference_lists.Goals as goal

pub returns : goal.returns
returns c = record { one = lists_alike; none = no_difference }
