use Rattle.orders.specs.Relation.{comes}
use Rattle.kept_graph.proofs.CompletionLaws.{allowed, exchanged}
use Rattle.kept_graph.proofs.completing.completions.Goals as goal

pub returns : goal.returns
returns c = record {
  allowed = λ es proper order kept is.
      let p = is.pruned in
      allowed es order kept is (c.pruning.ensures.completed es proper (comes order) p.moves kept.pruned.kept (c.pruning.ensures.leads es (comes order) p.moves _ _ p.prunes));
  exchange = exchanged;
}
