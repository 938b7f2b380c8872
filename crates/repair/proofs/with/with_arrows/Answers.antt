use Rattle.std.proofs.Common.{ℕ, List, ◌++◌, ap, sym, subst, ◌∙◌}
use Rattle.orders.specs.Faults.{IfCycle}
use Rattle.orders.specs.Paths.{EndsBelow, Path}
use Rattle.repair.proofs.WithLaws.{ends_below, path_to, path_from}
use Rattle.repair.proofs.with.with_arrows.Goals as goal

pub from_edges-requires : goal.from_edges-requires
from_edges-requires c =
    let order = c.args.order.now in
    let arrows = c.args.arrows.now in
    let are = c.as_slice.ensures.value ∙ c.in_ok-extend_from_slice.ensures.items ∙ ap (λ (xs : List (ℕ × ℕ)). xs ++ arrows) (c.in_ok-edges.ensures.items ∙ c.requires.pairs) in
    subst (λ n. EndsBelow n c.as_slice.result.now) (sym c.count.ensures.count)
    (subst (EndsBelow order.count) (sym are) (ends_below order c.count.ensures.ordered arrows c.requires.added.free))

pub returns-in-Ok : goal.returns-in-Ok
returns-in-Ok c =
    let order = c.args.order.now in
    let arrows = c.args.arrows.now in
    let are = c.as_slice.ensures.value ∙ c.in_ok-extend_from_slice.ensures.items ∙ ap (λ (xs : List (ℕ × ℕ)). xs ++ arrows) (c.in_ok-edges.ensures.items ∙ c.requires.pairs) in
    record {
      count = c.in-Ok.ensures.count ∙ c.count.ensures.count;
      before = λ a b.
          let told = c.in-Ok.ensures.before a b in (
            λ h. path_to order c.count.ensures.ordered arrows a b (subst (λ xs. Path xs a b) are (told.0 h)),
            λ h. told.1 (subst (λ xs. Path xs a b) (sym are) (path_from order c.count.ensures.ordered arrows a b h)),
          );
    }

pub unreachable-requires : goal.unreachable-requires
unreachable-requires c =
    let order = c.args.order.now in
    let arrows = c.args.arrows.now in
    let are = c.as_slice.ensures.value ∙ c.in_ok-extend_from_slice.ensures.items ∙ ap (λ (xs : List (ℕ × ℕ)). xs ++ arrows) (c.in_ok-edges.ensures.items ∙ c.requires.pairs) in
    let round = subst (λ e. IfCycle e (λ nodes. (a : ℕ) × Path c.as_slice.result.now a a)) c.in-Err-Cycle.field-0-is c.in-Err-Cycle.ensures.circle in
    c.requires.added.no_circle round.0 (path_to order c.count.ensures.ordered arrows round.0 round.0 (subst (λ xs. Path xs round.0 round.0) are round.1))
