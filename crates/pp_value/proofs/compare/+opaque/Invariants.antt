use Rattle.std.proofs.Common.{◌≡◌, drop}
use Rattle.std.specs.List.{list_any}
use Rattle.pp_value.specs.Values.{has_opaque}
use Rattle.pp_value.proofs.compare.+opaque.Given as goal

abbrev pub invariant-any_opaque-loop-item : goal.invariant-any_opaque-loop-item
invariant-any_opaque-loop-item l = list_any has_opaque (drop l.item-index l.items) ≡ list_any has_opaque l.items

abbrev pub invariant-any_opaque_value-loop-pair : goal.invariant-any_opaque_value-loop-pair
invariant-any_opaque_value-loop-pair l = list_any (λ p. has_opaque p.1) (drop l.pair-index l.pairs) ≡ list_any (λ p. has_opaque p.1) l.pairs
