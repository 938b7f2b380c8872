use Rattle.std.proofs.Common.{◌≡◌, ◌+◌, ◌-◌, map, length, sym, ap, subst₂, ◌∙◌, arith}
use Rattle.std.proofs.lemmas.List.{length-map}
use Rattle.fs_semantics.specs.Orders.{Told}
use Rattle.fs_lang.specs.Meaning.{program_of}
use Rattle.orders.specs.Relation.{comes}
use Rattle.settled_groups.specs.Groups.{CommuteWhereSure}
use Rattle.given_hosts.proofs.GraphLaws.{longer}
use Rattle.given_verdict.proofs.GroupLaws.{guard_commutes}
use Rattle.given_verdict.proofs.again.groups_from.Goals as goal

pub groups_beside-requires : goal.groups_beside-requires
groups_beside-requires c k low =
    let es = map program_of c.args.programs.now in
    let graph = c.args.graph.now in
    let given = c.args.given.now in
    let programs = ap (map program_of) c.as_slice.ensures ∙ c.requires.programs in
    let number : c.count-guard.result ≡ length es + 1 = c.count-guard.ensures.count ∙ sym c.requires.count ∙ sym (length-map graph.programs program_of) ∙ ap length c.requires.programs ∙ longer given es in
    let last : length es ≡ c.count-guard.result - 1 = omega (arith, number) in
    let first = c.requires.first in
    let commutes = guard_commutes given es first.0 (comes graph.order) first.1 (c.all_keep.ensures.spares c.if-not-all_keep.false) (c.all_keep.ensures.keeps c.if-not-all_keep.false) k (omega (arith, low, number)) in
    subst₂ (λ fs n. CommuteWhereSure fs (Told (comes graph.order)) k n) (sym programs) last commutes
