use Rattle.std.proofs.Common.{◌≡◌, map, take}
use Rattle.verdict_text.specs.Lines.{name_at}
use Rattle.verdict_text.proofs.order_lines.names_in.Given as goal

-- the names so far
abbrev pub invariant-loop-i : goal.invariant-loop-i
invariant-loop-i l = l.texts ≡ map (name_at l.names) (take l.i-index l.order)
