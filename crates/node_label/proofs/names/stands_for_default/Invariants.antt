use Rattle.std.proofs.Common.{◌≡◌, None, drop}
use Rattle.std.specs.List.{list_any}
use Rattle.catalog_semantics.specs.Sites.{is_same_node}
use Rattle.node_label.proofs.names.stands_for_default.Given as goal

abbrev pub invariant-loop-own : goal.invariant-loop-own
invariant-loop-own l = list_any (is_same_node None) (drop l.own-index l.names) ≡ list_any (is_same_node None) l.names
