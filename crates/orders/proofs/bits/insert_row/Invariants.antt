use Rattle.orders.proofs.Cells.{IsRowAdded}
use Rattle.orders.proofs.bits.insert_row.Given as goal

abbrev pub invariant-loop-k : goal.invariant-loop-k
invariant-loop-k l = IsRowAdded l.target l.source l.k l.initial.words l.words
