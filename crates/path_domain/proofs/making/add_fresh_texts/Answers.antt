use Rattle.path_domain.proofs.StemLaws.{no_start}
use Rattle.path_domain.proofs.making.add_fresh_texts.Goals as goal

pub add_numbered-requires : goal.add_numbered-requires
add_numbered-requires c = no_start c.start_of-n.result c.args.table.now.contents c.in_ok-start.start c.in_ok-start.ensures c.start_of-n.ensures
