use Rattle.std.proofs.Common.{◌≡◌, drop}
use Rattle.std.specs.List.{flat_map}
use Rattle.graph_semantics.specs.Relations.{relations_by}
use Rattle.dep_graph.specs.Links.{with_links}
use Rattle.dep_graph.proofs.links.push_attributes.Given as goal

abbrev pub invariant-loop-pair : goal.invariant-loop-pair
invariant-loop-pair l = with_links l.catalog (flat_map (relations_by l.r) (drop l.pair-index l.r.attrs)) l.links ≡ with_links l.catalog (flat_map (relations_by l.r) l.r.attrs) l.initial.links
