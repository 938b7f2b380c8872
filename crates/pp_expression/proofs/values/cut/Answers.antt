use Rattle.pp_readers.proofs.Escapes.{cut_at}
use Rattle.pp_expression.proofs.values.cut.Goals as goal

pub returns : goal.returns
returns c = cut_at c.args.text.now c.split_once.result c.split_once.ensures.cases
