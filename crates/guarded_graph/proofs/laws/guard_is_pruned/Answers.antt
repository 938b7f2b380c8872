use Rattle.fs_semantics.specs.Orders.{Told}
use Rattle.guarded_graph.proofs.PruneLaws.{keeps}
use Rattle.guarded_graph.proofs.laws.guard_is_pruned.Goals as goal

pub returns : goal.returns
returns c = λ given es before after goes. keeps given es (Told before) (Told after) goes.first goes.never_behind goes.others
