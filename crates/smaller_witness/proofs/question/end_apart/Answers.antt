use Rattle.smaller_witness.proofs.SmallerLaws.{ok_map, ended_apart}
use Rattle.smaller_witness.proofs.question.end_apart.Goals as goal

pub returns-in-Ended-Ended : goal.returns-in-Ended-Ended
returns-in-Ended-Ended c =
    ok_map c.are_apart.result (λ b word. ended_apart c.args.first.now c.args.second.now c.in-Ended-Ended.left c.in-Ended-Ended.right b c.in-Ended-Ended.is-0 c.in-Ended-Ended.is-1 word) c.are_apart.ensures
