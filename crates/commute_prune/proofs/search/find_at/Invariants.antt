use Rattle.std.proofs.Common.{◌≡◌, ◌<◌, drop}
use Rattle.std.specs.List.{AllByRecursion, find}
use Rattle.commute_prune.specs.Steps.{lets, may}
use Rattle.commute_prune.specs.Search.{IsSeen}
use Rattle.commute_prune.proofs.search.find_at.Given as goal

-- none so far may, and what was seen is noted
abbrev pub invariant-loop-k : goal.invariant-loop-k
invariant-loop-k l = record {
  below : AllByRecursion (λ j. j < l.order.count) (drop l.k-index l.kept);
  rest : find (may l.end l.order l.clear l.kept) l.kept ≡ find (may l.end l.order l.clear l.kept) (drop l.k-index l.kept);
  seen : IsSeen (lets l.end l.order l.clear) l.order.count l.kept l.seen;
}
