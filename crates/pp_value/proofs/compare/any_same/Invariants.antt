use Rattle.std.proofs.Common.{◌≡◌, drop}
use Rattle.std.specs.List.{list_any}
use Rattle.pp_value.specs.Values.{same}
use Rattle.pp_value.proofs.compare.any_same.Given as goal

abbrev pub invariant-loop-item : goal.invariant-loop-item
invariant-loop-item l = list_any (same l.x) (drop l.item-index l.items) ≡ list_any (same l.x) l.items
