use Rattle.pp_print.proofs.Alike.{same_canonical}
use Rattle.pp_print.proofs.laws.same_trees_print_alike.Goals as goal

pub returns : goal.returns
returns c = same_canonical
