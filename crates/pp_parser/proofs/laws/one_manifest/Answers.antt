use Rattle.pp_parser.proofs.TreeLaws.{one_tree}
use Rattle.pp_parser.proofs.laws.one_manifest.Goals as goal

pub returns : goal.returns
returns c = one_tree
