use Rattle.std.proofs.Common.{ℕ, List, sym, ◌∙◌}
use Rattle.orders.specs.Paths.{Path, IsCycle}
use Rattle.orders.proofs.Cycles.{cycle_path, if_cycle_map, err_of}
use Rattle.orders.specs.Search.{state_of}
use Rattle.orders.proofs.Steps.{comes_is, no_circles, ordered, rooted_begun, rooted_more}
use Rattle.orders.proofs.order.Order.from_edges.Goals as goal
use Rattle.orders.proofs.order.Order.from_edges.Goals.{then-not-is_marked+in_ok-explore, else-not-is_marked}

pub loop-root-init : goal.loop-root-init
loop-root-init c = rooted_begun c.args.n c.args.edges.now c.requires c.in_ok-links.links.heads.items c.in_ok-links.links.nexts.items c.in_ok-links.ensures (state_of c.in_ok-search.search) c.in_ok-search.ensures

pub loop-root-preserved : goal.loop-root-preserved
loop-root-preserved c =
    let old = c.loop-root.invariant in
    elim c.if-not-is_marked.branch [
      | then-not-is_marked+in_ok-explore w ↦
          rw w.search-is
          (rooted_more c.args.n c.args.edges.now c.loop-root.root (state_of c.loop-root.search) (state_of w.explore.new.search) old.entered w.in_ok-explore.ensures.ok w.in_ok-explore.ensures.idle w.in_ok-explore.ensures.root
          w.in_ok-explore.ensures.entered)
      | else-not-is_marked w ↦
          rw w.search-is
          (rooted_more c.args.n c.args.edges.now c.loop-root.root (state_of c.loop-root.search) (state_of c.loop-root.search) old.entered old.search old.idle
          (sym (rw c.as_slice.ensures.value at c.is_marked.ensures) ∙ w.if-not-is_marked.false) (λ k h. h))
    ]

pub invariant_of-result : goal.invariant_of-result
invariant_of-result c = ordered c.args.n c.args.edges.now c.requires c.loop-root.root c.loop-root-test.false (state_of c.loop-root.search) c.loop-root.invariant

pub returns-clause-before : goal.returns-clause-before
returns-clause-before c = comes_is c.args.n c.args.edges.now c.requires c.loop-root.root c.loop-root-test.false (state_of c.loop-root.search) c.loop-root.invariant

pub returns-clause-acyclic : goal.returns-clause-acyclic
returns-clause-acyclic c = no_circles c.args.n c.args.edges.now c.requires c.loop-root.root c.loop-root-test.false (state_of c.loop-root.search) c.loop-root.invariant

pub returns-in_err-explore-clause-circle : goal.returns-in_err-explore-clause-circle
returns-in_err-explore-clause-circle c =
    let edges = c.args.edges.now in
    let P : List ℕ → Type 0 = λ nodes. (a : ℕ) × Path edges a a in
    err_of P c.from_residual-in_err-explore.result c.in_err-explore.field-0.0 c.from_residual-in_err-explore.ensures.1 (if_cycle_map (IsCycle edges) P (cycle_path edges) c.in_err-explore.field-0.0 c.in_err-explore.ensures.cycle)
