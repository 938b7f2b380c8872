use Rattle.std.proofs.Common.{◌≡◌, drop}
use Rattle.compiled_catalog.specs.Attributes.{none_is, is_large}
use Rattle.compiled_catalog.proofs.attributes.none_is_large.Given as goal

-- none is, where none of those that are left is
abbrev pub invariant-loop-pair : goal.invariant-loop-pair
invariant-loop-pair l = none_is is_large 32 l.r (drop l.pair-index l.attributes) ≡ none_is is_large 32 l.r l.attributes
