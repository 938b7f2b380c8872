use Rattle.std.proofs.Common.{◌+◌, cond, length}
use Rattle.commute_prune.specs.Pruned.{IsOnTheWay}
use Rattle.commute_prune.specs.Search.{IsSearch}
use Rattle.commute_prune.proofs.settling.settle.Given as goal

abbrev pub decreases-loop-more : goal.decreases-loop-more
decreases-loop-more l = cond l.more 1 0 + length l.p.kept

abbrev pub invariant-loop-more : goal.invariant-loop-more
invariant-loop-more l = record {
  way : IsOnTheWay l.order l.clear l.p l.more;
  search : IsSearch l.order l.clear l.p.kept l.search;
}
