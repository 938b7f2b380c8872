use Rattle.std.proofs.Common.{map, sym, ap, subst, ◌∙◌}
use Rattle.fs_semantics.specs.Orders.{IsExchange, outcome}
use Rattle.fs_lang.specs.Meaning.{program_of}
use Rattle.orders.specs.Relation.{Comes}
use Rattle.kept_graph.specs.Kept.{completion}
use Rattle.kept_graph.proofs.KeptLaws.{completed_below, completed, not_alike}
use Rattle.kept_graph.proofs.counterexamples.refute.Goals as goal

pub end_alike-requires-clause-left : goal.end_alike-requires-clause-left
end_alike-requires-clause-left c =
    completed_below c.args.plan.now.programs.now c.args.plan.now.order.now c.in_ok-first.first (completion c.args.kept.now.pruned c.args.left.now) c.as_slice.result.now
    (c.completions.ensures.allowed (map program_of c.args.plan.now.programs.now) c.are_proper.ensures c.args.plan.now.order.now c.args.kept.now c.requires.kept c.args.left.now c.requires.left) c.in_ok-first.ensures c.as_slice.ensures

pub end_alike-requires-clause-right : goal.end_alike-requires-clause-right
end_alike-requires-clause-right c =
    completed_below c.args.plan.now.programs.now c.args.plan.now.order.now c.in_ok-second.second (completion c.args.kept.now.pruned c.args.right.now) c.as_slice-2.result.now
    (c.completions.ensures.allowed (map program_of c.args.plan.now.programs.now) c.are_proper.ensures c.args.plan.now.order.now c.args.kept.now c.requires.kept c.args.right.now c.requires.right) c.in_ok-second.ensures c.as_slice-2.ensures

pub returns-clause-found : goal.returns-clause-found
returns-clause-found c =
    let es = map program_of c.args.plan.now.programs.now in
    let law = c.completions.ensures.allowed es c.are_proper.ensures c.args.plan.now.order.now c.args.kept.now c.requires.kept in
    completed es c.args.plan.now.order.now c.args.kept.now c.args.tree.now c.args.left.now c.args.right.now _ c.is_tree.ensures (law c.args.left.now c.requires.left) (law c.args.right.now c.requires.right)
    c.in_ok-first.ensures c.in_ok-second.ensures
    (λ e. not_alike c.in_ok-alike.alike _ c.in_ok-alike.ensures c.if-alike.false
    (ap (λ o. outcome es o c.args.tree.now) c.as_slice.ensures ∙ e ∙ sym (ap (λ o. outcome es o c.args.tree.now) c.as_slice-2.ensures)))

pub returns-clause-exchange : goal.returns-clause-exchange
returns-clause-exchange c = λ e.
    let pruned = c.args.kept.now.pruned in
    let is = c.completions.ensures.exchange (map program_of c.args.plan.now.programs.now) c.args.plan.now.order.now c.args.kept.now c.requires.kept c.args.left.now c.args.right.now c.requires.left e in
    subst (λ o. IsExchange (Comes c.args.plan.now.order.now) o c.in_ok-second.second) (sym c.in_ok-first.ensures)
    (subst (IsExchange (Comes c.args.plan.now.order.now) (completion pruned c.args.left.now)) (sym c.in_ok-second.ensures) is)
