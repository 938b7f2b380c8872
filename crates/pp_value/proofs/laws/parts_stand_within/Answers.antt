use Rattle.pp_value.proofs.TextLaws.{part_is}
use Rattle.pp_value.proofs.laws.parts_stand_within.Goals as goal

pub returns : goal.returns
returns c = part_is
