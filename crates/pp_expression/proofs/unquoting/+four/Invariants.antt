use Rattle.std.proofs.Common.{◌-◌}
use Rattle.pp_expression.proofs.unquoting.+four.Given as goal

-- how many digits may follow
abbrev pub decreases-four : goal.decreases-four
decreases-four l = 4 - l.count
