use Rattle.std.proofs.Common.{take}
use Rattle.std.specs.List.{AllByRecursion}
use Rattle.apart_groups.specs.Groups.{IsWithin}
use Rattle.apart_groups.proofs.testing.are_within.Given as goal

-- those of the pairs so far are
abbrev pub invariant-loop-pair : goal.invariant-loop-pair
invariant-loop-pair l = AllByRecursion (IsWithin l.numbers) (take l.pair-index l.pairs)
