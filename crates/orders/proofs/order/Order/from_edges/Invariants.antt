use Rattle.orders.specs.Search.{state_of}
use Rattle.orders.proofs.Steps.{IsRooted}
use Rattle.orders.proofs.order.Order.from_edges.Given as goal

abbrev pub invariant-loop-root : goal.invariant-loop-root
invariant-loop-root l = IsRooted l.n l.edges l.root (state_of l.search)
