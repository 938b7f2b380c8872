use Rattle.orders.specs.Paths.{EndsBelow}
use Rattle.apart_groups.proofs.labels.edges_between.Given as goal

-- so far all of them do
abbrev pub invariant-loop-a : goal.invariant-loop-a
invariant-loop-a l = EndsBelow l.order.count l.edges
