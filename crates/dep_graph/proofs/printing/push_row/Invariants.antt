use Rattle.std.proofs.Common.{◌≡◌, ◌++◌}
use Rattle.orders.specs.Relation.{comes}
use Rattle.graph_semantics.specs.Graphs.{pair_lines}
use Rattle.dep_graph.proofs.printing.push_row.Given as goal

abbrev pub invariant-loop-j : goal.invariant-loop-j
invariant-loop-j l = l.text ≡ l.initial.text ++ pair_lines l.catalog l.plain (comes l.order) l.i l.j
