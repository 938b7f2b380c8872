use Rattle.std.proofs.Common.{◌≡◌, ℕ, [], length, get_or}
use Rattle.unit_propagation.proofs.watches.Watches.new.Given as goal

abbrev pub invariant-literals : goal.invariant-literals
invariant-literals l = record {
  long : length l.lists.items ≡ l._literal;
  none : (x : ℕ) → get_or l.lists.items x [] ≡ [];
}
