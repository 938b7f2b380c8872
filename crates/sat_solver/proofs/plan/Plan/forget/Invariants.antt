use Rattle.std.proofs.Common.{length}
use Rattle.sat_solver.proofs.plan.Plan.forget.Given as goal

abbrev pub decreases-known : goal.decreases-known
decreases-known l = length l.self.known.items
