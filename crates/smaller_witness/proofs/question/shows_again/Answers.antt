use Rattle.std.proofs.Common.{map, refl}
use Rattle.fs_semantics.specs.Orders.{outcome}
use Rattle.fs_lang.specs.Meaning.{program_of}
use Rattle.smaller_witness.proofs.SmallerLaws.{ok_map, told_ended, told_error, fails_again, again_word}
use Rattle.smaller_witness.proofs.question.shows_again.Goals as goal

pub returns-in-Error : goal.returns-in-Error
returns-in-Error c =
    let es = map program_of c.args.programs.now in
    let order = c.args.order.now in
    let first = told_ended c.in_ok-after.field-0 (outcome es order c.args.tree.now) c.in-Ended.after c.in-Ended.is c.in_ok-after.ensures in
    let second = told_error c.in_ok-replay.field-0 (outcome es order c.in-Ended.after) c.in-Error.is c.in_ok-replay.ensures in
    ((λ h. fails_again es order c.args.tree.now c.in-Ended.after first second), (λ h. refl))

pub returns : goal.returns
returns c =
    let es = map program_of c.args.programs.now in
    let order = c.args.order.now in
    let first = told_ended c.in_ok-after.field-0 (outcome es order c.args.tree.now) c.in-Ended.after c.in-Ended.is c.in_ok-after.ensures in
    let second = told_ended c.in_ok-replay.field-0 (outcome es order c.in-Ended.after) c.in-Ended-2.last c.in-Ended-2.is c.in_ok-replay.ensures in
    ok_map c.are_apart.result (λ b word. again_word es order c.args.tree.now c.in-Ended.after c.in-Ended-2.last b first second word) c.are_apart.ensures
