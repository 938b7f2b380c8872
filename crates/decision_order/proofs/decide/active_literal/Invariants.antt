use Rattle.std.proofs.Common.{length}
use Rattle.decision_order.proofs.decide.active_literal.Given as goal

abbrev pub decreases-active : goal.decreases-active
decreases-active l = length l.activity.heap.items
