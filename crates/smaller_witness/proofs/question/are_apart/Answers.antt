use Rattle.smaller_witness.proofs.SmallerLaws.{apart_word}
use Rattle.smaller_witness.proofs.question.are_apart.Goals as goal

pub returns : goal.returns
returns c =
    apart_word c.args.first.now c.args.second.now c.in_ok-list.list.items c.as_slice-listed.result.now c.is_empty.result c.in_ok-list.ensures (c.difference_lists.ensures.none c.args.first.now c.args.second.now)
    c.as_slice-listed.ensures.value c.is_empty.ensures
