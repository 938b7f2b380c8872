use Rattle.std.proofs.Common.{◌≡◌, ℕ, false, not, ◌&&◌, length, take, get_or}
use Rattle.unit_propagation.specs.Literals.{has}
use Rattle.unit_propagation.proofs.trail.unmark.Given as goal

abbrev pub invariant-loop-literal : goal.invariant-loop-literal
invariant-loop-literal l = record {
  long : length l.holds.items ≡ length l.initial.holds.items;
  marks : (w : ℕ) → get_or l.holds.items w false ≡ (get_or l.initial.holds.items w false && not (has (take l.literal-index l.literals) w));
}
