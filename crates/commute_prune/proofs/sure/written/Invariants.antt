use Rattle.std.proofs.Common.{◌≡◌, ℕ, ◌||◌, false, drop, length, get_or}
use Rattle.std.specs.List.{AllByRecursion, list_any}
use Rattle.commute_prune.specs.declared.numbered.Numbered.{Numbered}
use Rattle.commute_prune.specs.Numbers.{has}
use Rattle.commute_prune.specs.Numbered.{IsBelow}
use Rattle.commute_prune.proofs.sure.written.Given as goal

-- what is marked, and what the rest will mark
abbrev pub invariant-loop-f : goal.invariant-loop-f
invariant-loop-f l = record {
  long : length l.marks.items ≡ l.count;
  below : AllByRecursion (IsBelow l.count) (drop l.f-index l.all);
  marks : (n : ℕ) → (get_or l.marks.items n false || list_any (λ (f : Numbered). has n f.writes.items) (drop l.f-index l.all)) ≡ list_any (λ (f : Numbered). has n f.writes.items) l.all;
}
