use Rattle.sat_solver.specs.Analyzing.{IsIdle, Shrinks}
use Rattle.sat_solver.proofs.analyze.Resolvent.shrink.Given as goal

abbrev pub invariant-redundant : goal.invariant-redundant
invariant-redundant l = record {
  idle : IsIdle l.graph l.self;
  shrinks : Shrinks l.graph l.initial.self l.self;
}
