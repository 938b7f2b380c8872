use Rattle.orders.specs.Counting.{count_false}
use Rattle.orders.proofs.Taking.{IsTaking}
use Rattle.orders.proofs.order.Order.first_extension.Given as goal

abbrev pub invariant-loop-node : goal.invariant-loop-node
invariant-loop-node l = IsTaking l.self l.taken.items l.waits.items l.order.items

abbrev pub decreases-loop-node : goal.decreases-loop-node
decreases-loop-node l = count_false l.taken.items
