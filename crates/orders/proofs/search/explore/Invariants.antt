use Rattle.orders.specs.Search.{work, state_of}
use Rattle.orders.proofs.Steps.{IsExploring}
use Rattle.orders.proofs.search.explore.Given as goal

abbrev pub invariant-loop-search : goal.invariant-loop-search
invariant-loop-search l = IsExploring l.n l.edges l.root l.fn.search.entered.items (state_of l.search)

abbrev pub decreases-loop-search : goal.decreases-loop-search
decreases-loop-search l = work (state_of l.search)
