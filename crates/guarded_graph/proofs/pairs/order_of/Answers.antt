use Rattle.std.proofs.Common.{ℕ, ◌+◌, sym, subst, ◌∙◌}
use Rattle.orders.specs.Faults.{IfCycle}
use Rattle.orders.specs.Paths.{EndsBelow, Path}
use Rattle.orders.specs.Relation.{comes, Comes}
use Rattle.std.specs.Prelude.{◌↔◌}
use Rattle.kept_graph.proofs.PairLaws.{pairs_bounded}
use Rattle.given_hosts.specs.Guard.{guard_before}
use Rattle.guarded_graph.proofs.GuardLaws.{same_order, never}
use Rattle.guarded_graph.proofs.pairs.order_of.Goals as goal

pub from_edges-requires : goal.from_edges-requires
from_edges-requires c =
    subst (λ m. EndsBelow (m + 1) c.as_slice.result.now) (sym c.count-n.ensures.count)
    (subst (EndsBelow (c.args.order.now.count + 1)) (sym (c.as_slice.ensures ∙ c.in_ok-pairs.ensures)) (pairs_bounded (guard_before c.args.order.now.count (comes c.args.order.now)) (c.args.order.now.count + 1)))

pub returns-in-Ok-clause-before : goal.returns-in-Ok-clause-before
returns-in-Ok-clause-before c =
    let are = c.as_slice.ensures ∙ c.in_ok-pairs.ensures in
    same_order c.args.order.now c.count-n.ensures.ordered c.in-Ok.more (subst (λ xs. (a b : ℕ) → Comes c.in-Ok.more a b ↔ Path xs a b) are c.in-Ok.ensures.before)

pub unreachable-requires : goal.unreachable-requires
unreachable-requires c =
    let are = c.as_slice.ensures ∙ c.in_ok-pairs.ensures in
    let round = subst (λ e. IfCycle e (λ nodes. (a : ℕ) × Path c.as_slice.result.now a a)) c.in-Err-Cycle.field-0-is c.in-Err-Cycle.ensures.circle in
    never c.args.order.now c.count-n.ensures.ordered (c.args.order.now.count + 1) round.0 (subst (λ xs. Path xs round.0 round.0) are round.1)
