use Rattle.std.proofs.Common.{◌≡◌, drop}
use Rattle.std.specs.List.{flat_map}
use Rattle.graph_semantics.specs.Relations.{relations_of, metaparameter_relations}
use Rattle.dep_graph.specs.Links.{with_links}
use Rattle.dep_graph.proofs.links.push_metaparameters.Given as goal

abbrev pub invariant-loop-place : goal.invariant-loop-place
invariant-loop-place l = with_links l.catalog (flat_map relations_of (drop l.place l.catalog.resources)) l.links ≡ with_links l.catalog (metaparameter_relations l.catalog) l.initial.links
