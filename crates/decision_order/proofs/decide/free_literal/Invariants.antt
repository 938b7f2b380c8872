use Rattle.std.proofs.Common.{◌≡◌, ◌⊎◌, ℕ, ◌*◌, ◌<◌, true}
use Rattle.unit_propagation.specs.Literals.{opposite, has}
use Rattle.decision_order.proofs.decide.free_literal.Given as goal

abbrev pub invariant-vars : goal.invariant-vars
invariant-vars l = record {
  full : (i : ℕ) → i < l.var → (has l.trail.literals (2 * i) ≡ true) ⊎ (has l.trail.literals (opposite (2 * i)) ≡ true);
}
