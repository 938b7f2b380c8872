use Rattle.pp_eval.proofs.NameLaws.{cut_at_colon}
use Rattle.pp_eval.proofs.names.cut.Goals as goal

pub returns : goal.returns
returns c = cut_at_colon c.args.text.now c.split_once.result c.split_once.ensures.cases
