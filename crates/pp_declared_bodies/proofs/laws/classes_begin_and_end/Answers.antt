use Rattle.pp_declared_bodies.proofs.BeginningLaws.{class_is}
use Rattle.pp_declared_bodies.proofs.laws.classes_begin_and_end.Goals as goal

pub returns : goal.returns
returns c = class_is
