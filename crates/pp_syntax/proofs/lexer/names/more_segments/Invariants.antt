use Rattle.std.proofs.Common.{◌≡◌, ◌-◌}
use Rattle.pp_syntax.specs.Scanning.{more_segments}
use Rattle.pp_syntax.proofs.lexer.names.more_segments.Given as goal

-- the turns that are left, on the rest
abbrev pub invariant-loop-turn : goal.invariant-loop-turn
invariant-loop-turn l = more_segments (l.turns - l._turn) l.style l.rest ≡ more_segments l.turns l.style l.text
