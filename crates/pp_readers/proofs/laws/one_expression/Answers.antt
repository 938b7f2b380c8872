use Rattle.pp_readers.proofs.ExpressionLaws.{same_expression}
use Rattle.pp_readers.proofs.laws.one_expression.Goals as goal

pub returns : goal.returns
returns c = same_expression
