use Rattle.std.proofs.Common.{◌≡◌, ◌+◌, ◌++◌, drop}
use Rattle.dimacs.specs.Dimacs.{value_lines}
use Rattle.dimacs.proofs.print.push_values.Given as goal

abbrev pub invariant-loop-i : goal.invariant-loop-i
invariant-loop-i l = l.out.items ++ value_lines (l.i + 1) (drop l.i l.values) ≡ l.initial.out.items ++ value_lines 1 l.values
