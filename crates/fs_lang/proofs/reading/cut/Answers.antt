use Rattle.fs_lang.proofs.Pieces.{cut_at_slash}
use Rattle.fs_lang.proofs.reading.cut.Goals as goal

pub returns : goal.returns
returns c = cut_at_slash c.args.text.now c.split_once.result c.split_once.ensures.cases
