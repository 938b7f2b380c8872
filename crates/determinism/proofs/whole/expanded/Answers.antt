use Rattle.std.proofs.Common.{ap, map, ◌∙◌}
use Rattle.fs_lang.specs.Meaning.{program_of}
use Rattle.orders.specs.Relation.{Comes}
use Rattle.kept_graph.specs.Contracted.{expanded}
use Rattle.determinism.proofs.QuestionLaws.{has_two}
use Rattle.determinism.proofs.WholeLaws.{left_below, right_below, expanded_difference}
use Rattle.determinism.proofs.whole.expanded.Goals as goal

pub two_orders-tree-requires : goal.two_orders-tree-requires
two_orders-tree-requires c =
    let k = c.args.contracted.now in
    has_two (map program_of k.programs) (Comes k.order) c.args.witness c.requires.shown

pub expand-requires : goal.expand-requires
expand-requires c =
    left_below (map program_of c.args.plan.now.programs.now) c.args.plan.now.order.now c.args.kept.now.pruned c.args.contracted.now c.requires.contracted c.args.witness
    c.two_orders-tree.result.0 c.two_orders-tree.result.1 c.two_orders-tree.result.2 c.as_slice.result.now c.requires.shown c.two_orders-tree.ensures c.as_slice.ensures

pub expand-requires-2 : goal.expand-requires-2
expand-requires-2 c =
    right_below (map program_of c.args.plan.now.programs.now) c.args.plan.now.order.now c.args.kept.now.pruned c.args.contracted.now c.requires.contracted c.args.witness
    c.two_orders-tree.result.0 c.two_orders-tree.result.1 c.two_orders-tree.result.2 c.as_slice-2.result.now c.requires.shown c.two_orders-tree.ensures c.as_slice-2.ensures

pub returns : goal.returns
returns c =
    let es = map program_of c.args.plan.now.programs.now in
    let order = c.args.plan.now.order.now in
    let p = c.args.kept.now.pruned in
    let k = c.args.contracted.now in
    let law = c.contractions.ensures in
    expanded_difference es order p k c.requires.contracted (λ t o q. law.expanded es c.are_proper.ensures order p c.requires.kept.pruned k c.requires.contracted t o q)
    (λ o q. law.exchange es order p c.requires.kept.pruned k c.requires.contracted o q) c.args.witness c.two_orders-tree.result.0 c.two_orders-tree.result.1 c.two_orders-tree.result.2
    c.in_ok-first.first c.in_ok-second.second c.requires.shown c.two_orders-tree.ensures (c.in_ok-first.ensures ∙ ap (expanded p) c.as_slice.ensures)
    (c.in_ok-second.ensures ∙ ap (expanded p) c.as_slice-2.ensures)
