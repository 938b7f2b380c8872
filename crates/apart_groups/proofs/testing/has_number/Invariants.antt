use Rattle.std.proofs.Common.{◌≡◌, take}
use Rattle.std.specs.List.{AllByRecursion}
use Rattle.apart_groups.specs.Groups.{group_of}
use Rattle.apart_groups.proofs.testing.has_number.Given as goal

-- those so far have it
abbrev pub invariant-loop-k : goal.invariant-loop-k
invariant-loop-k l = AllByRecursion (λ k. group_of l.numbers k ≡ l.i) (take l.k-index l.group)
