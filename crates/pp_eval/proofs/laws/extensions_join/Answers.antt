use Rattle.pp_eval.specs.Growing.{same_extends, extends_joined}
use Rattle.pp_eval.proofs.laws.extensions_join.Goals as goal

pub returns-clause-none : goal.returns-clause-none
returns-clause-none c = same_extends

pub returns-clause-both : goal.returns-clause-both
returns-clause-both c = extends_joined
