use Rattle.std.proofs.Common.{false, [], drop, get_or}
use Rattle.commuting_parts.specs.Splits.{AreAhead}
use Rattle.commuting_parts.proofs.splitting.are_ahead.Given as goal

-- where those that follow are ahead, all are
abbrev pub invariant-loop-i : goal.invariant-loop-i
invariant-loop-i l = AreAhead l.folders (λ n. get_or l.marks n false) l.i l.front (drop l.i l.steps) → AreAhead l.folders (λ n. get_or l.marks n false) 0 [] l.steps
