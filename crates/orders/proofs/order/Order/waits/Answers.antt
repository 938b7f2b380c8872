use Rattle.std.proofs.Common.{[], arith}
use Rattle.orders.specs.Relation.{comes}
use Rattle.orders.proofs.Waits.{waiting_le}
use Rattle.orders.proofs.order.Order.waits.Goals as goal

pub hold-requires-clause-few : goal.hold-requires-clause-few
hold-requires-clause-few c = λ b h.
    rw c.as_mut_slice.ensures.value (omega (arith, c.loop-a.invariant.1 b h, waiting_le (comes c.args.self.now) [] c.loop-a.a b))
