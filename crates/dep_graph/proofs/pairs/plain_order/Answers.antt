use Rattle.std.proofs.Common.{ℕ, length, sym, subst, ◌∙◌}
use Rattle.orders.specs.Faults.{IfCycle}
use Rattle.orders.specs.Paths.{EndsBelow, Path}
use Rattle.dep_graph.specs.Pairs.{pairs_below}
use Rattle.dep_graph.proofs.PairLaws.{pairs_bounded, pairs_path, path_of_pairs}
use Rattle.dep_graph.proofs.pairs.plain_order.Goals as goal

pub from_edges-requires : goal.from_edges-requires
from_edges-requires c = subst (EndsBelow (length c.args.plain.now)) (sym (c.as_slice.ensures ∙ c.in_ok-pairs.ensures)) (pairs_bounded c.args.whole.now c.args.plain.now)

pub returns-in-Ok-clause-before : goal.returns-in-Ok-clause-before
returns-in-Ok-clause-before c = λ i j left right.
    let es = pairs_below c.args.whole.now c.args.plain.now (length c.args.plain.now) in
    let are = c.as_slice.ensures ∙ c.in_ok-pairs.ensures in
    let told = c.in-Ok.ensures.before i j in (
      λ h. pairs_path c.args.whole.now c.args.plain.now c.count.ensures.ordered i j (subst (λ xs. Path xs i j) are (told.0 h)),
      λ h. told.1 (subst (λ xs. Path xs i j) (sym are) (path_of_pairs c.args.whole.now c.args.plain.now i j left right h)),
    )

pub unreachable-requires : goal.unreachable-requires
unreachable-requires c =
    let are = c.as_slice.ensures ∙ c.in_ok-pairs.ensures in
    let round = subst (λ e. IfCycle e (λ nodes. (a : ℕ) × Path c.as_slice.result.now a a)) c.in-Err-Cycle.field-0-is c.in-Err-Cycle.ensures.circle in
    c.count.ensures.ordered.never_itself _ (pairs_path c.args.whole.now c.args.plain.now c.count.ensures.ordered round.0 round.0 (subst (λ xs. Path xs round.0 round.0) are round.1))
