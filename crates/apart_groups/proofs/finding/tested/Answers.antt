use Rattle.std.proofs.Common.{map, sym, subst, ◌∙◌}
use Rattle.std.proofs.lemmas.List.{length-map}
use Rattle.std.proofs.lemmas.Result.{IfOk-weaker}
use Rattle.std.specs.Prelude.{◌≡◌, ◌∷◌, []}
use Rattle.fs_semantics.specs.Orders.{IsLinearExtension}
use Rattle.fs_lang.specs.Meaning.{program_of}
use Rattle.orders.specs.Relation.{comes, Comes}
use Rattle.apart_groups.specs.Groups.{AreGroups}
use Rattle.apart_groups.proofs.GroupLaws.{one_group}
use Rattle.apart_groups.proofs.finding.tested.Goals as goal

pub returns : goal.returns
returns c =
    let es = map program_of c.args.plan.now.programs.now in
    let order = c.args.plan.now.order.now in
    let first = c.in_ok-first.first in
    let allowed = subst (λ n. IsLinearExtension n (Comes order) first) (sym (length-map c.args.plan.now.programs.now program_of ∙ c.args.plan.now.count)) c.in_ok-first.ensures.allowed in
    IfOk-weaker c.one_group.result (λ groups. groups ≡ first ∷ []) (AreGroups es (comes order))
    (λ groups is. subst (AreGroups es (comes order)) (sym is) (one_group es (comes order) first allowed)) c.one_group.ensures
