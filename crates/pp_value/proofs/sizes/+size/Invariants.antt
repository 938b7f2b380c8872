use Rattle.std.proofs.Common.{◌≡◌, ◌+◌, ◌-◌, ◌^◌, ◌<◌, min, drop}
use Rattle.pp_value.specs.Levels.{size_of_all, size_of_each}
use Rattle.pp_value.proofs.sizes.+size.Given as goal

abbrev pub invariant-size_of_all-loop-item : goal.invariant-size_of_all-loop-item
invariant-size_of_all-loop-item l = (l.total < 2 ^ 64) × (min (l.total + size_of_all (drop l.item-index l.items)) (2 ^ 64 - 1) ≡ min (size_of_all l.items) (2 ^ 64 - 1))

abbrev pub invariant-size_of_each-loop-pair : goal.invariant-size_of_each-loop-pair
invariant-size_of_each-loop-pair l = (l.total < 2 ^ 64) × (min (l.total + size_of_each (drop l.pair-index l.pairs)) (2 ^ 64 - 1) ≡ min (size_of_each l.pairs) (2 ^ 64 - 1))
