use Rattle.std.proofs.Common.{◌≡◌, drop}
use Rattle.dep_graph.specs.Links.{with_links}
use Rattle.dep_graph.proofs.links.push_arrows.Given as goal

abbrev pub invariant-loop-relation : goal.invariant-loop-relation
invariant-loop-relation l = with_links l.catalog (drop l.relation-index l.catalog.relations) l.links ≡ with_links l.catalog l.catalog.relations l.initial.links
