use Rattle.std.proofs.Common.{map, sym, subst, subst₂, ◌∙◌}
use Rattle.std.proofs.lemmas.Bool.{OnTrue_at}
use Rattle.std.proofs.lemmas.List.{length-map}
use Rattle.fs_semantics.specs.Orders.{IsLinearExtension}
use Rattle.fs_lang.specs.Meaning.{program_of}
use Rattle.orders.specs.Relation.{comes, Comes}
use Rattle.apart_groups.specs.Groups.{AreNumbered}
use Rattle.apart_groups.proofs.GroupLaws.{are_groups, on_true}
use Rattle.apart_groups.proofs.testing.are_groups.Goals as goal

pub returns : goal.returns
returns c =
    let es = map program_of c.args.plan.now.programs.now in
    let order = c.args.plan.now.order.now in
    let groups = c.args.groups.now in
    let long = sym (length-map c.args.plan.now.programs.now program_of ∙ c.args.plan.now.count) in
    let whole = c.deref.ensures.value ∙ c.in_ok-whole.ensures in
    let allowed = subst₂ (λ n o. IsLinearExtension n (Comes order) o) long whole (c.is_extension.ensures.0 c.if-not-is_extension.false) in
    let same = c.deref-2.ensures.value ∙ sym c.deref-3.ensures.value in
    let numbered = subst (λ numbers. AreNumbered numbers groups) same (OnTrue_at c.if-not-are_numbered.false c.are_numbered.ensures) in
    on_true c.are_within.result (λ within.
    are_groups es (comes order) c.args.pairs.now c.requires c.deref-3.result.now within groups allowed numbered) c.are_within.ensures
