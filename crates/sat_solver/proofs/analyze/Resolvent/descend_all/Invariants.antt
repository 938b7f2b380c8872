use Rattle.std.proofs.Common.{◌≤◌, length}
use Rattle.sat_solver.specs.Analyzing.{IsCounted, Resolves}
use Rattle.sat_solver.proofs.analyze.Resolvent.descend_all.Given as goal

abbrev pub decreases-walk : goal.decreases-walk
decreases-walk l = l.place

abbrev pub invariant-walk : goal.invariant-walk
invariant-walk l = record {
  high : l.place ≤ length l.graph.trail.now.literals;
  counted : IsCounted l.graph l.place l.self;
  resolves : Resolves l.graph l.initial.self l.self;
}
