use Rattle.std.proofs.Common.{ℕ, ◌<◌, ◌≤◌, get_or}
use Rattle.sat_solver.specs.Arranging.{IsBehind}
use Rattle.sat_solver.proofs.arrange.last_place.Given as goal

abbrev pub invariant-rest : goal.invariant-rest
invariant-rest l = record {
  low : 1 ≤ l.last;
  within : l.last < l.k;
  behind : (i : ℕ) → 1 ≤ i → i < l.k → IsBehind l.trail.literals (get_or l.literals.items l.last 0) (get_or l.literals.items i 0);
}
