use Rattle.effect_sets.proofs.ApartLaws.{apart_commute}
use Rattle.effect_sets.proofs.laws.apart_programs.Goals as goal

pub returns : goal.returns
returns c = apart_commute
