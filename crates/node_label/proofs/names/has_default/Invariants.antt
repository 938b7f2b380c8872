use Rattle.std.proofs.Common.{◌≡◌, drop}
use Rattle.node_label.specs.Spelled.{has_default}
use Rattle.node_label.proofs.names.has_default.Given as goal

abbrev pub invariant-loop-item : goal.invariant-loop-item
invariant-loop-item l = has_default (drop l.item-index l.items) ≡ has_default l.items
