use Rattle.std.proofs.Common.{◌≡◌, drop}
use Rattle.compiled_catalog.specs.Attributes.{none_is, is_unknown}
use Rattle.compiled_catalog.proofs.attributes.none_is_unknown.Given as goal

-- none is, where none of those that are left is
abbrev pub invariant-loop-pair : goal.invariant-loop-pair
invariant-loop-pair l = none_is is_unknown 29 l.r (drop l.pair-index l.attributes) ≡ none_is is_unknown 29 l.r l.attributes
