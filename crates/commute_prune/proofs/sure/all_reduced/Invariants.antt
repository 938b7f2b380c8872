use Rattle.std.proofs.Common.{◌≡◌, length}
use Rattle.orders.specs.Relation.{comes}
use Rattle.commute_prune.specs.Reduced.{AreReduced}
use Rattle.commute_prune.proofs.sure.all_reduced.Given as goal

-- those so far
abbrev pub invariant-loop-f : goal.invariant-loop-f
invariant-loop-f l = record {
  at : l.i ≡ l.f-index;
  long : length l.made.items ≡ l.f-index;
  reduced : AreReduced (comes l.order) l.all l.made.items;
}
