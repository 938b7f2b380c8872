use Rattle.std.proofs.Common.{take}
use Rattle.path_domain.specs.Laid.{Starts}
use Rattle.path_domain.proofs.stems.start_of.Given as goal

-- so it is of the contents so far
abbrev pub invariant-loop-i : goal.invariant-loop-i
invariant-loop-i l = Starts l.start (take l.i l.table.contents)
