use Rattle.std.proofs.Common.{arith}
use Rattle.orders.proofs.Lists.{times_none}
use Rattle.orders.proofs.cycle.index_of.Goals as goal

pub unreachable-requires : goal.unreachable-requires
unreachable-requires c = omega (arith, c.requires, times_none c.args.node c.args.list.now (λ j h. c.loop-k.invariant j (omega arith)))
