use Rattle.std.proofs.Common.{map}
use Rattle.fs_semantics.specs.Orders.{outcome}
use Rattle.fs_lang.specs.Meaning.{program_of}
use Rattle.fs_lang.specs.Outcomes.{outcome_of}
use Rattle.smaller_witness.proofs.SmallerLaws.{ok_map, same_apart}
use Rattle.smaller_witness.proofs.question.shows_apart.Goals as goal

pub returns : goal.returns
returns c =
    let es = map program_of c.args.programs.now in
    ok_map c.end_apart.result
    (λ b word. same_apart (outcome_of c.in_ok-first.first) (outcome_of c.in_ok-second.second) (outcome es c.args.left.now c.args.tree.now) (outcome es c.args.right.now c.args.tree.now) b c.in_ok-first.ensures c.in_ok-second.ensures word)
    c.end_apart.ensures
