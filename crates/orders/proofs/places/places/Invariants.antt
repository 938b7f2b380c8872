use Rattle.orders.proofs.Walks.{IsPlaced}
use Rattle.orders.proofs.places.places.Given as goal

abbrev pub invariant-loop-k : goal.invariant-loop-k
invariant-loop-k l = IsPlaced l.n l.order l.k l.places.items
