use Rattle.pp_declared_bodies.proofs.ParentLaws.{from_the_top}
use Rattle.pp_declared_bodies.proofs.laws.parents_go_from_the_top.Goals as goal

pub returns : goal.returns
returns c = from_the_top
