use Rattle.std.proofs.Common.{◌≡◌, ◌-◌, ◌^◌, ◌<◌, min, max, drop}
use Rattle.pp_value.specs.Levels.{depth_of_all, depth_of_each}
use Rattle.pp_value.proofs.sizes.+depth.Given as goal

abbrev pub invariant-depth_of_all-loop-item : goal.invariant-depth_of_all-loop-item
invariant-depth_of_all-loop-item l = (l.deepest < 2 ^ 64) × (min (max l.deepest (depth_of_all (drop l.item-index l.items))) (2 ^ 64 - 1) ≡ min (depth_of_all l.items) (2 ^ 64 - 1))

abbrev pub invariant-depth_of_each-loop-pair : goal.invariant-depth_of_each-loop-pair
invariant-depth_of_each-loop-pair l = (l.deepest < 2 ^ 64) × (min (max l.deepest (depth_of_each (drop l.pair-index l.pairs))) (2 ^ 64 - 1) ≡ min (depth_of_each l.pairs) (2 ^ 64 - 1))
