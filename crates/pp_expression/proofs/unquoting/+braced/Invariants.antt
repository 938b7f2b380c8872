use Rattle.std.proofs.Common.{◌-◌}
use Rattle.pp_expression.proofs.unquoting.+braced.Given as goal

-- how many digits may follow
abbrev pub decreases-braced : goal.decreases-braced
decreases-braced l = 7 - l.count
