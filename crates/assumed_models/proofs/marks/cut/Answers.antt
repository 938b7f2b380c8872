use Rattle.fs_lang.proofs.NameLaws.{cut_at}
use Rattle.assumed_models.proofs.marks.cut.Goals as goal

pub returns : goal.returns
returns c = cut_at c.args.c c.args.text.now c.split_once.result c.requires c.split_once.ensures.cases
