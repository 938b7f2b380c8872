use Rattle.pp_eval.specs.Growing.{bound_extends}
use Rattle.pp_eval.proofs.laws.bindings_extend.Goals as goal

pub returns : goal.returns
returns c = bound_extends
