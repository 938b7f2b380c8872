use Rattle.std.proofs.Common.{◌≡◌, ℕ, ◌<◌, true, false, length, take, get_or}
use Rattle.unit_propagation.specs.Literals.{has}
use Rattle.sat_solver.specs.Resolving.{is_seen, Moved}
use Rattle.sat_solver.proofs.analyze.Resolvent.collect.Given as goal

abbrev pub invariant-gather : goal.invariant-gather
invariant-gather l = record {
  moved : Moved l.trail.literals l.fn.self.seen.items l.self.seen.items l.into.items;
  done : (x : ℕ) → has (take l.i l.fn.self.marked.items) x ≡ true → is_seen l.self.seen.items x ≡ false;
  same : l.self.marked ≡ l.fn.self.marked;
  some : 0 < length l.into.items;
  head : get_or l.into.items 0 0 ≡ l.first;
  resolutions : l.self.resolutions ≡ l.fn.self.resolutions;
}
