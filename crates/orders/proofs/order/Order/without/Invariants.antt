use Rattle.orders.proofs.Tables.{IsCopied}
use Rattle.orders.proofs.order.Order.without.Given as goal

abbrev pub invariant-loop-a : goal.invariant-loop-a
invariant-loop-a l = IsCopied l.n l.r l.a l.self-inside.words.items l.words.items
