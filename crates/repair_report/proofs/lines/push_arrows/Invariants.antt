use Rattle.std.proofs.Common.{◌≡◌, ◌++◌, take}
use Rattle.repair_report.specs.Lines.{arrow_lines}
use Rattle.repair_report.proofs.lines.push_arrows.Given as goal

-- the lines so far
abbrev pub invariant-loop-arrow : goal.invariant-loop-arrow
invariant-loop-arrow l = l.into.items ≡ l.initial.into.items ++ arrow_lines l.names (take l.arrow-index l.arrows)
