use Rattle.pp_eval.specs.Growing.{body_extends}
use Rattle.pp_eval.proofs.laws.bodies_extend.Goals as goal

pub returns : goal.returns
returns c = body_extends
