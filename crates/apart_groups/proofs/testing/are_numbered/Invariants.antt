use Rattle.std.proofs.Common.{◌≡◌, ℕ, ◌<◌, [], get_or}
use Rattle.std.specs.List.{AllByRecursion}
use Rattle.apart_groups.specs.Groups.{group_of}
use Rattle.apart_groups.proofs.testing.are_numbered.Given as goal

-- those of the groups so far have theirs
abbrev pub invariant-loop-i : goal.invariant-loop-i
invariant-loop-i l = (j : ℕ) → j < l.i → AllByRecursion (λ k. group_of l.numbers k ≡ j) (get_or l.groups j [])
