use Rattle.std.specs.Prelude.{IsTrue}
use Rattle.std.proofs.Common.{ℕ, ◌+◌, length, get_or, sym, subst, ap, ◌∙◌, ◌++◌}
use Rattle.orders.specs.Faults.{IfCycle}
use Rattle.orders.specs.Paths.{EndsBelow, Path}
use Rattle.kept_graph.specs.Pairs.{comes_at}
use Rattle.kept_graph.specs.Contracted.{star}
use Rattle.kept_graph.proofs.AroundLaws.{edges_bounded, around_path, path_around, never_around}
use Rattle.kept_graph.proofs.contracted.order_around.Goals as goal

pub from_edges-requires : goal.from_edges-requires
from_edges-requires c =
    let n = length c.args.nodes.now in
    let test = comes_at c.args.order.now c.args.nodes.now in
    subst (EndsBelow (n + 2)) (sym (c.as_slice.ensures ∙ c.in_ok-push_star.ensures ∙ ap (λ xs. xs ++ star n n) c.in_ok-edges.ensures)) (edges_bounded n test)

pub returns-in-Ok-clause-before : goal.returns-in-Ok-clause-before
returns-in-Ok-clause-before c = λ a b left right.
    let n = length c.args.nodes.now in
    let test = comes_at c.args.order.now c.args.nodes.now in
    let are = c.as_slice.ensures ∙ c.in_ok-push_star.ensures ∙ ap (λ xs. xs ++ star n n) c.in_ok-edges.ensures in
    let told = c.in-Ok.ensures.before a b in
    let strict = c.count.ensures.ordered in (
      λ h. around_path n test (λ x y z. strict.transitive _ _ _) a b (subst (λ xs. Path xs a b) are (told.0 h)),
      λ h. told.1 (subst (λ xs. Path xs a b) (sym are) (path_around n test a b left right h)),
    )

pub unreachable-requires : goal.unreachable-requires
unreachable-requires c =
    let n = length c.args.nodes.now in
    let test = comes_at c.args.order.now c.args.nodes.now in
    let are = c.as_slice.ensures ∙ c.in_ok-push_star.ensures ∙ ap (λ xs. xs ++ star n n) c.in_ok-edges.ensures in
    let strict = c.count.ensures.ordered in
    let round = subst (λ e. IfCycle e (λ nodes. (a : ℕ) × Path c.as_slice.result.now a a)) c.in-Err-Cycle.field-0-is c.in-Err-Cycle.ensures.circle in
    never_around n (λ x y. IsTrue (test x y)) (λ a. strict.never_itself (get_or c.args.nodes.now a 0)) round.0 (around_path n test (λ x y z. strict.transitive _ _ _) round.0 round.0 (subst (λ xs. Path xs round.0 round.0) are round.1))
