use Rattle.std.proofs.Common.{◌≡◌, ℕ, ◌<◌, ◌||◌, false, drop, length, get_or}
use Rattle.std.specs.List.{AllByRecursion}
use Rattle.commute_prune.specs.Numbers.{has}
use Rattle.commute_prune.proofs.marks.mark_all.Given as goal

-- what is marked, and what still will be
abbrev pub invariant-loop-n : goal.invariant-loop-n
invariant-loop-n l = record {
  long : length l.marks ≡ length l.initial.marks;
  below : AllByRecursion (λ n. n < length l.initial.marks) (drop l.n-index l.ns);
  marks : (n : ℕ) → (get_or l.marks n false || has n (drop l.n-index l.ns)) ≡ (get_or l.initial.marks n false || has n l.ns);
}
