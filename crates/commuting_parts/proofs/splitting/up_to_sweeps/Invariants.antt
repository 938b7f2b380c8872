use Rattle.std.proofs.Common.{◌≡◌}
use Rattle.commuting_parts.proofs.splitting.up_to_sweeps.Given as goal

abbrev pub invariant-loop-step : goal.invariant-loop-step
invariant-loop-step l = l.count ≡ l.step-index
