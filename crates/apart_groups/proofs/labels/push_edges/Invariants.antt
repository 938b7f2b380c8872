use Rattle.orders.specs.Paths.{EndsBelow}
use Rattle.apart_groups.proofs.labels.push_edges.Given as goal

-- so far all of them do
abbrev pub invariant-loop-b : goal.invariant-loop-b
invariant-loop-b l = EndsBelow l.order.count l.edges
