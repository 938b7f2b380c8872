use Rattle.std.proofs.Common.{◌≡◌, ℕ, ◌≤◌, true, not, ◌||◌, ◌&&◌, take}
use Rattle.std.specs.Prelude.{◌==◌}
use Rattle.unit_propagation.specs.Literals.{opposite, has}
use Rattle.sat_solver.specs.Resolving.{is_seen}
use Rattle.sat_solver.specs.Analyzing.{IsCounted, IsCovered}
use Rattle.sat_solver.proofs.analyze.Resolvent.join.Given as goal

abbrev pub invariant-loop-literal : goal.invariant-loop-literal
invariant-loop-literal l = record {
  counted : IsCounted l.graph l.limit l.self;
  grows : l.initial.self.pending ≤ l.self.pending;
  seen : (x : ℕ) → has l.graph.trail.now.literals (opposite x) ≡ true
      → is_seen l.self.seen.items x ≡ (is_seen l.initial.self.seen.items x || (has (take l.literal-index l.lits) x && not (x == l.skip)));
  covered : IsCovered l.graph l.initial.self → IsCovered l.graph l.self;
  resolutions : l.self.resolutions ≡ l.initial.self.resolutions;
}
