use Rattle.std.proofs.Common.{◌≡◌, drop}
use Rattle.node_label.specs.Spelled.{spelled_in}
use Rattle.node_label.proofs.names.spelled_in.Given as goal

abbrev pub invariant-loop-item : goal.invariant-loop-item
invariant-loop-item l = spelled_in l.node (drop l.item-index l.items) ≡ spelled_in l.node l.items
