use Rattle.std.proofs.Common.{◌≡◌, drop}
use Rattle.dep_graph.specs.Named.{is_linked}
use Rattle.dep_graph.proofs.named.is_linked.Given as goal

abbrev pub invariant-loop-link : goal.invariant-loop-link
invariant-loop-link l = is_linked (drop l.link-index l.links) l.a l.b ≡ is_linked l.links l.a l.b
