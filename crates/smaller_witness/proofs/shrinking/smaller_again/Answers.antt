use Rattle.std.proofs.Common.{map}
use Rattle.fs_lang.specs.Meaning.{program_of}
use Rattle.smaller_witness.proofs.SmallerLaws.{still_changes}
use Rattle.smaller_witness.proofs.shrinking.smaller_again.Goals as goal

pub returns-clause-shows : goal.returns-clause-shows
returns-clause-shows c = λ before given. still_changes (map program_of c.args.programs.now) before c.args.tree.now c.in_ok-smaller.smaller c.args.order.now c.is_tree.ensures c.in_ok-smaller.ensures.shows given
