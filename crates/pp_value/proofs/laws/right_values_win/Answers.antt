use Rattle.pp_value.proofs.Distinct.{later_wins}
use Rattle.pp_value.proofs.laws.right_values_win.Goals as goal

pub returns : goal.returns
returns c = later_wins
