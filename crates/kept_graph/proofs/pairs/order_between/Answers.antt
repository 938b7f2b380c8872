use Rattle.std.proofs.Common.{ℕ, length, sym, subst, ◌∙◌}
use Rattle.orders.specs.Faults.{IfCycle}
use Rattle.orders.specs.Paths.{EndsBelow, Path}
use Rattle.kept_graph.specs.Pairs.{comes_at}
use Rattle.kept_graph.proofs.PairLaws.{pairs_bounded, pairs_path, path_of_pairs}
use Rattle.kept_graph.proofs.pairs.order_between.Goals as goal

pub from_edges-requires : goal.from_edges-requires
from_edges-requires c =
    subst (EndsBelow (length c.args.nodes.now)) (sym (c.as_slice.ensures ∙ c.in_ok-pairs.ensures)) (pairs_bounded (comes_at c.args.order.now c.args.nodes.now) (length c.args.nodes.now))

pub returns-in-Ok-clause-before : goal.returns-in-Ok-clause-before
returns-in-Ok-clause-before c = λ a b left right.
    let n = length c.args.nodes.now in
    let are = c.as_slice.ensures ∙ c.in_ok-pairs.ensures in
    let told = c.in-Ok.ensures.before a b in (
      λ h. pairs_path c.args.order.now c.args.nodes.now c.count.ensures.ordered n a b (subst (λ xs. Path xs a b) are (told.0 h)),
      λ h. told.1 (subst (λ xs. Path xs a b) (sym are) (path_of_pairs c.args.order.now c.args.nodes.now n a b left right h)),
    )

pub unreachable-requires : goal.unreachable-requires
unreachable-requires c =
    let n = length c.args.nodes.now in
    let are = c.as_slice.ensures ∙ c.in_ok-pairs.ensures in
    let round = subst (λ e. IfCycle e (λ nodes. (a : ℕ) × Path c.as_slice.result.now a a)) c.in-Err-Cycle.field-0-is c.in-Err-Cycle.ensures.circle in
    c.count.ensures.ordered.never_itself _ (pairs_path c.args.order.now c.args.nodes.now c.count.ensures.ordered n round.0 round.0 (subst (λ xs. Path xs round.0 round.0) are round.1))
