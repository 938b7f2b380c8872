use Rattle.std.proofs.Common.{◌≡◌, ◌∷◌, ◌++◌, drop}
use Rattle.order_places.specs.Places.{exchanged}
use Rattle.order_circuit.proofs.ExchangeLaws.{exchanged_from}
use Rattle.order_encode.proofs.read.exchanged_behind.Given as goal

-- what came so far, and what is left of the exchange with the held one ahead, is the whole
abbrev pub invariant-loop-k : goal.invariant-loop-k
invariant-loop-k l = l.order ++ exchanged_from l.k l.place (l.held ∷ drop l.k l.rest) ≡ exchanged l.place (l.first ∷ l.rest)
