use Rattle.std.proofs.Common.{length, ◌-◌}
use Rattle.decision_order.proofs.decide.first_literal.Given as goal

abbrev pub decreases-first : goal.decreases-first
decreases-first l = length l.activity.firsts.items - l.activity.passed
