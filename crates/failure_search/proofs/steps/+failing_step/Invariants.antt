use Rattle.std.proofs.Common.{length}
use Rattle.failure_search.proofs.steps.+failing_step.Given as goal

abbrev pub decreases-failing_step : goal.decreases-failing_step
decreases-failing_step l = length l.steps.now
