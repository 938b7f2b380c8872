use Rattle.std.proofs.Common.{◌≡◌, drop}
use Rattle.std.specs.List.{flat_map}
use Rattle.graph_semantics.specs.Relations.{references_within}
use Rattle.dep_graph.specs.Links.{with_nodes}
use Rattle.dep_graph.proofs.values.+values.Given as goal

abbrev pub invariant-push_values-loop-item : goal.invariant-push_values-loop-item
invariant-push_values-loop-item l = with_nodes l.side l.catalog l.at (flat_map references_within (drop l.item-index l.items)) l.nodes ≡ with_nodes l.side l.catalog l.at (flat_map references_within l.items) l.initial.nodes
