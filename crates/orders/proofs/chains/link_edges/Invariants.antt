use Rattle.orders.proofs.Linking.{IsLinked}
use Rattle.orders.proofs.chains.link_edges.Given as goal

abbrev pub invariant-loop-k : goal.invariant-loop-k
invariant-loop-k l = IsLinked l.n l.edges l.k l.heads.items l.nexts.items
