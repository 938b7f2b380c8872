use Rattle.std.proofs.Common.{map, sym, subst}
use Rattle.fs_lang.specs.Meaning.{program_of}
use Rattle.orders.specs.Relation.{comes}
use Rattle.apart_groups.specs.Groups.{MeetIn}
use Rattle.apart_groups.proofs.GroupLaws.{touching_meet}
use Rattle.apart_groups.proofs.finding.groups_of.Goals as goal

pub tested-requires : goal.tested-requires
tested-requires c =
    let es = map program_of c.args.plan.now.programs.now in
    let order = c.args.plan.now.order.now in
    subst (MeetIn es (comes order)) (sym c.as_slice.ensures)
    (touching_meet es (comes order) (c.sure_pairs.ensures.commute es (comes order) c.are_proper.ensures) c.in_ok-pairs.pairs c.in_ok-pairs.ensures)
