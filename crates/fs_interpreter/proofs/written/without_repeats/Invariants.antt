use Rattle.std.proofs.Common.{◌≡◌, ℕ, drop}
use Rattle.std.specs.Prelude.{◌||◌}
use Rattle.fs_interpreter.specs.Places.{has}
use Rattle.fs_interpreter.proofs.written.without_repeats.Given as goal

-- what is there, and what is left, is all of it
abbrev pub invariant-loop-i : goal.invariant-loop-i
invariant-loop-i l = (j : ℕ) → (has j l.once.items || has j (drop l.i-index l.places)) ≡ has j l.places
