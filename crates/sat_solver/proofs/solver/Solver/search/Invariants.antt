use Rattle.std.proofs.Common.{◌+◌, ◌-◌, ◌*◌, ◌^◌, ◌<◌, length}
use Rattle.sat_solver.specs.Turning.{IsState, IsSameTask}
use Rattle.sat_solver.proofs.solver.Solver.search.Given as goal

abbrev pub decreases-turns : goal.decreases-turns
decreases-turns l = (3 ^ l.initial.self.formula.now.vars - length l.self.steps) * 2 ^ 32 + (2 ^ 32 - length l.self.propagator.trail.literals)

abbrev pub invariant-turns : goal.invariant-turns
invariant-turns l = record {
  state : IsState l.self;
  below : length l.self.steps < l.self.budget;
  task : IsSameTask l.initial.self l.self;
}
