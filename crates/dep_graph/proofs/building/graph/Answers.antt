use Rattle.std.proofs.Common.{◌≡◌, ◌<◌, ◌≤◌, ◌*◌, length, sym, subst, ◌∙◌, arith}
use Rattle.std.specs.Prelude.{slice_index}
use Rattle.std.specs.List.{All}
use Rattle.std.proofs.lemmas.Result.{err_from_is_err_and}
use Rattle.orders.specs.Relation.{comes, Comes}
use Rattle.catalog_semantics.specs.States.{declared_bound}
use Rattle.graph_semantics.specs.Graphs.{Node, Start, rank, plain_places}
use Rattle.dep_graph.specs.Pairs.{IsWithin}
use Rattle.dep_graph.specs.Whole.{bound_of}
use Rattle.dep_graph.proofs.Bounds.{places_within, few_places, place_low, node_low}
use Rattle.dep_graph.proofs.Refusals.{links_refused, circle_refused, complete}
use Rattle.dep_graph.proofs.building.graph.Goals as goal

pub returns-in_err-links-clause-refused : goal.returns-in_err-links-clause-refused
returns-in_err-links-clause-refused c =
    let p = err_from_is_err_and c.from_residual.result c.from_residual.ensures.1 in
    rw (p.1, p.2) (links_refused c.args.catalog.now c.in_err-links.field-0.0 c.in_err-links.ensures)

pub returns-in_err-whole-clause-refused : goal.returns-in_err-whole-clause-refused
returns-in_err-whole-clause-refused c =
    let p = err_from_is_err_and c.from_residual-in_err-whole.result c.from_residual-in_err-whole.ensures.1 in
    rw (p.1, p.2) (circle_refused c.args.catalog.now c.in_ok-links.links c.in_err-whole.field-0.0 c.in_ok-links.ensures c.in_err-whole.ensures.circle)

pub plain_order-requires-clause-within : goal.plain_order-requires-clause-within
plain_order-requires-clause-within c =
    let same = c.count.ensures.count in
    let up = c.count.ensures.few in
    let few : length c.args.catalog.now.resources ≤ declared_bound = omega arith in
    subst (All (IsWithin c.in_ok-whole.whole.count)) (sym (c.as_slice-3.ensures ∙ c.in_ok-plain.ensures)) (places_within c.args.catalog.now c.in_ok-whole.whole.count few c.in_ok-whole.ensures.count)

pub plain_order-requires-clause-few : goal.plain_order-requires-clause-few
plain_order-requires-clause-few c =
    let same = c.count.ensures.count in
    let up = c.count.ensures.few in
    let few : length c.args.catalog.now.resources ≤ declared_bound = omega arith in
    subst (λ ps. length ps ≤ declared_bound) (sym (c.as_slice-3.ensures ∙ c.in_ok-plain.ensures)) (few_places c.args.catalog.now few)

pub returns-clause-graph : goal.returns-clause-graph
returns-clause-graph c =
    let k = c.args.catalog.now in
    let plain = c.in_ok-plain.plain in
    let is : plain ≡ plain_places k = c.in_ok-plain.ensures in
    let lent : c.as_slice-3.result.now ≡ plain = c.as_slice-3.ensures in
    record {
      places = is;
      paths = λ i j p q.
          let both = c.in_ok-order.ensures.before i j (subst (λ ps. i < length ps) (sym lent) p) (subst (λ ps. j < length ps) (sym lent) q) in
          let between = subst (λ ps. (Comes c.in_ok-order.order i j → Comes c.in_ok-whole.whole (2 * slice_index ps i) (2 * slice_index ps j)) × (Comes c.in_ok-whole.whole (2 * slice_index ps i) (2 * slice_index ps j) → Comes c.in_ok-order.order i j)) lent both in
          let low_i = subst (λ ps. 2 * slice_index ps i < bound_of k) (sym is) (place_low k i (subst (λ ps. i < length ps) is p)) in
          let low_j = subst (λ ps. 2 * slice_index ps j < bound_of k) (sym is) (place_low k j (subst (λ ps. j < length ps) is q)) in
          let told = c.in_ok-whole.ensures.before (Start (slice_index plain i)) (Start (slice_index plain j)) low_i low_j in
          (λ h. told.0 (between.0 h), λ h. between.1 (told.1 h));
      complete = complete k c.in_ok-links.links c.in_ok-links.ensures;
      acyclic = c.in_ok-whole.ensures.acyclic;
    }

pub returns-clause-allowed : goal.returns-clause-allowed
returns-clause-allowed c =
    let k = c.args.catalog.now in
    let whole = c.in_ok-whole.whole in
    let test = λ (a : Node) (b : Node). comes whole (rank a) (rank b) in
    c.allowed_orders.ensures k c.in_ok-plain.plain (comes c.in_ok-order.order) test (returns-clause-graph c)
    (λ a b m n. c.in_ok-whole.ensures.before a b (node_low k a m) (node_low k b n))
