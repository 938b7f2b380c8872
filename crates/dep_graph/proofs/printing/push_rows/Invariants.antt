use Rattle.std.proofs.Common.{◌≡◌, ◌++◌}
use Rattle.orders.specs.Relation.{comes}
use Rattle.graph_semantics.specs.Graphs.{order_lines}
use Rattle.dep_graph.proofs.printing.push_rows.Given as goal

abbrev pub invariant-loop-i : goal.invariant-loop-i
invariant-loop-i l = l.text ≡ l.initial.text ++ order_lines l.catalog l.plain (comes l.order) l.i
