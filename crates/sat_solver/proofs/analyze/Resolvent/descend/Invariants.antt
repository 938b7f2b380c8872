use Rattle.std.proofs.Common.{◌<◌, ◌≤◌, length}
use Rattle.sat_solver.specs.Analyzing.{IsCounted, Resolves}
use Rattle.sat_solver.proofs.analyze.Resolvent.descend.Given as goal

abbrev pub decreases-walk : goal.decreases-walk
decreases-walk l = l.place

abbrev pub invariant-walk : goal.invariant-walk
invariant-walk l = record {
  low : l.graph.boundary ≤ l.place;
  high : l.place ≤ length l.graph.trail.now.literals;
  some : 0 < l.self.pending;
  counted : IsCounted l.graph l.place l.self;
  resolves : Resolves l.graph l.initial.self l.self;
}
