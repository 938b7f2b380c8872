use Rattle.std.proofs.Common.{◌≡◌, [], drop}
use Rattle.dep_graph.specs.Links.{with_nodes}
use Rattle.dep_graph.proofs.values.nodes_of.Given as goal

abbrev pub invariant-loop-r : goal.invariant-loop-r
invariant-loop-r l = with_nodes l.side l.catalog l.at (drop l.r-index l.refs) l.nodes ≡ with_nodes l.side l.catalog l.at l.refs []
