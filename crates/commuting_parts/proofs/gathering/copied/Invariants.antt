use Rattle.std.proofs.Common.{◌≡◌, take}
use Rattle.commuting_parts.proofs.gathering.copied.Given as goal

-- the copies so far
abbrev pub invariant-loop-step : goal.invariant-loop-step
invariant-loop-step l = l.copies ≡ take l.step-index l.steps
