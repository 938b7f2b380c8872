use Rattle.std.proofs.Common.{◌≡◌, ℕ, ◌<◌, ◌≤◌, true, get_or}
use Rattle.unit_propagation.specs.Literals.{opposite, has}
use Rattle.unit_propagation.proofs.propagate.free_place.Given as goal

abbrev pub invariant-loop-k : goal.invariant-loop-k
invariant-loop-k l = (j : ℕ) → 2 ≤ j → j < l.k → has l.trail.literals (opposite (get_or l.lits j 0)) ≡ true
