use Rattle.std.proofs.Common.{◌≡◌, ◌+◌, ◌-◌, ◌^◌, ◌<◌, min, drop}
use Rattle.catalog_semantics.specs.States.{size_of_attributes}
use Rattle.catalog.proofs.sizes.size_of_attributes.Given as goal

abbrev pub invariant-loop-pair : goal.invariant-loop-pair
invariant-loop-pair l = (l.total < 2 ^ 64) × (min (l.total + size_of_attributes (drop l.pair-index l.attributes)) (2 ^ 64 - 1) ≡ min (size_of_attributes l.attributes) (2 ^ 64 - 1))
