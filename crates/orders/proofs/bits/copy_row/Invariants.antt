use Rattle.orders.proofs.Cells.{IsRowCopied}
use Rattle.orders.proofs.bits.copy_row.Given as goal

abbrev pub invariant-loop-b : goal.invariant-loop-b
invariant-loop-b l = IsRowCopied l.n l.r l.a l.b l.from l.initial.into l.into
