use Rattle.std.proofs.Common.{length}
use Rattle.decision_order.proofs.decide.drop_refuted.Given as goal

abbrev pub decreases-refuted : goal.decreases-refuted
decreases-refuted l = length l.activity.firsts.items
