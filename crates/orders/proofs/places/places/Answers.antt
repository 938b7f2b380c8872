use Rattle.orders.proofs.Walks.{placed_more}
use Rattle.orders.proofs.places.places.Goals as goal

pub loop-k-preserved : goal.loop-k-preserved
loop-k-preserved c = placed_more c.args.n c.args.order.now c.requires c.loop-k.k c.loop-k.places.items c.loop-k-test.true c.loop-k.invariant
