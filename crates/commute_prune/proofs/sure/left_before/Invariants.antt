use Rattle.std.proofs.Common.{◌≡◌, ℕ, ◌||◌, false, drop, length, get_or}
use Rattle.std.specs.List.{AllByRecursion}
use Rattle.orders.specs.Relation.{comes}
use Rattle.commute_prune.specs.Numbered.{IsBelow}
use Rattle.commute_prune.specs.Reduced.{marked_before}
use Rattle.commute_prune.proofs.sure.left_before.Given as goal

-- what is marked, and what the rest will mark
abbrev pub invariant-loop-f : goal.invariant-loop-f
invariant-loop-f l = record {
  at : l.k ≡ l.f-index;
  long : length l.marks.items ≡ l.count;
  below : AllByRecursion (IsBelow l.count) (drop l.f-index l.all);
  marks : (n : ℕ) → (get_or l.marks.items n false || marked_before (comes l.order) l.i l.f-index (drop l.f-index l.all) n) ≡ marked_before (comes l.order) l.i 0 l.all n;
}
