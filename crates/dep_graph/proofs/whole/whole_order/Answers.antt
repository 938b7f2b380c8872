use Rattle.std.proofs.Common.{◌≡◌, ◌≤◌, ◌*◌, sym, ap, subst, subst₂, ◌∙◌}
use Rattle.orders.specs.Paths.{EndsBelow, Path, IsCycle}
use Rattle.orders.specs.Faults.{IfCycle}
use Rattle.pp_eval.specs.Evaluating.{refusal}
use Rattle.graph_semantics.specs.Graphs.{rank, IsCircleRefusal}
use Rattle.dep_graph.specs.Circles.{around_text}
use Rattle.dep_graph.specs.Whole.{bound_of}
use Rattle.dep_graph.proofs.Refusals.{refused_weaker}
use Rattle.dep_graph.proofs.LinkEdges.{hubs_grow}
use Rattle.dep_graph.proofs.Steps.{ends_below, before_path, path_before}
use Rattle.dep_graph.proofs.CircleLaws.{circle}
use Rattle.dep_graph.proofs.whole.whole_order.Goals as goal

pub from_edges-requires : goal.from_edges-requires
from_edges-requires c =
    let e = c.in_ok-count.ensures.edges in
    subst₂ EndsBelow (sym c.in_ok-count.ensures.count) (sym (c.as_slice.ensures ∙ e.edges_are))
    (ends_below c.args.catalog.now c.args.links.now e.files c.requires.links e.files_are)

pub returns-in-Ok-clause-count : goal.returns-in-Ok-clause-count
returns-in-Ok-clause-count c =
    let grows = hubs_grow (bound_of c.args.catalog.now) c.args.links.now in
    subst (λ n. bound_of c.args.catalog.now ≤ n) (sym (c.in-Ok.ensures.count ∙ c.in_ok-count.ensures.count)) grows

pub returns-in-Ok-clause-before : goal.returns-in-Ok-clause-before
returns-in-Ok-clause-before c = λ a b p q.
    let k = c.args.catalog.now in
    let links = c.args.links.now in
    let e = c.in_ok-count.ensures.edges in
    let are = c.as_slice.ensures ∙ e.edges_are in
    let told = c.in-Ok.ensures.before (rank a) (rank b) in (
      λ h. path_before k links e.files c.requires.links e.files_are a b p q (subst (λ xs. Path xs (rank a) (rank b)) are (told.0 h)),
      λ h. told.1 (subst (λ xs. Path xs (rank a) (rank b)) (sym are) (before_path k links e.files c.requires.links e.files_are a b h)),
    )

pub returns-in-Ok-clause-acyclic : goal.returns-in-Ok-clause-acyclic
returns-in-Ok-clause-acyclic c = λ n h.
    let e = c.in_ok-count.ensures.edges in
    let are = c.as_slice.ensures ∙ e.edges_are in
    c.in-Ok.ensures.acyclic (rank n) (subst (λ xs. Path xs (rank n) (rank n)) (sym are) (before_path c.args.catalog.now c.args.links.now e.files c.requires.links e.files_are n n h))

pub returns-in-Err-Cycle-clause-circle : goal.returns-in-Err-Cycle-clause-circle
returns-in-Err-Cycle-clause-circle c =
    let k = c.args.catalog.now in
    let e = c.in_ok-count.ensures.edges in
    let are = c.as_slice.ensures ∙ e.edges_are in
    let found = subst (λ x. IfCycle x (IsCycle c.as_slice.result.now)) c.in-Err-Cycle.field-0-is c.in-Err-Cycle.ensures.cycle in
    let round = circle k c.args.links.now e.files c.requires.links e.files_are c.in-Err-Cycle.nodes (subst (λ xs. IsCycle xs c.in-Err-Cycle.nodes) are found) in
    let told : refusal 41 0 (around_text k (2 * c.count.result) c.as_slice-in-Err-Cycle.result.now) ≡ refusal 41 0 (around_text k (bound_of k) c.in-Err-Cycle.nodes) =
    ap (λ n. refusal 41 0 (around_text k (2 * n) c.as_slice-in-Err-Cycle.result.now)) c.count.ensures.count
    ∙ ap (λ ns. refusal 41 0 (around_text k (bound_of k) ns)) c.as_slice-in-Err-Cycle.ensures in
    refused_weaker (λ x. x ≡ refusal 41 0 (around_text k (2 * c.count.result) c.as_slice-in-Err-Cycle.result.now)) (IsCircleRefusal k) c.circle.result
    (λ x is. subst (IsCircleRefusal k) (sym (is ∙ told)) round) c.circle.ensures
