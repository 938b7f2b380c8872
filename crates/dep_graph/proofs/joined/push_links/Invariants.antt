use Rattle.std.proofs.Common.{◌≡◌, ◌++◌, drop}
use Rattle.dep_graph.specs.Numbered.{edges_of_links, hubs_after}
use Rattle.dep_graph.proofs.joined.push_links.Given as goal

abbrev pub invariant-loop-link : goal.invariant-loop-link
invariant-loop-link l = (l.edges ++ edges_of_links l.hub (drop l.link-index l.links) ≡ l.initial.edges ++ edges_of_links l.first l.links) × (hubs_after l.hub (drop l.link-index l.links) ≡ hubs_after l.first l.links)
