use Rattle.orders.proofs.MarkLaws.{IsMarked}
use Rattle.orders.proofs.marks.each_once.Given as goal

abbrev pub invariant-loop-item : goal.invariant-loop-item
invariant-loop-item l = IsMarked l.list l.item-index l.marks
