use Rattle.std.proofs.Common.{◌≡◌, ◌+◌, ◌-◌, ◌^◌, ◌<◌, min, filter, drop}
use Rattle.catalog_semantics.specs.States.{size_of_attributes, lacks}
use Rattle.catalog.proofs.sizes.size_of_lacking.Given as goal

abbrev pub invariant-loop-pair : goal.invariant-loop-pair
invariant-loop-pair l =
    (l.total < 2 ^ 64)
    × (min (l.total + size_of_attributes (filter (lacks l.attributes) (drop l.pair-index l.pairs))) (2 ^ 64 - 1)
    ≡ min (size_of_attributes (filter (lacks l.attributes) l.pairs)) (2 ^ 64 - 1))
