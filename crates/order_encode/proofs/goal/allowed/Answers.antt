use Rattle.std.proofs.Common.{◌≡◌, ◌-◌, nat_lt, ap, ◌∙◌}
use Rattle.std.proofs.lemmas.Result.{IfOk-weaker}
use Rattle.std.specs.Prelude.{◌&&◌}
use Rattle.orders.specs.Relation.{comes}
use Rattle.order_places.specs.Places.{is_in_order}
use Rattle.sym_run.proofs.CircuitLaws.{circuit_grows}
use Rattle.order_circuit.specs.Codes.{node, nodes}
use Rattle.order_circuit.proofs.RunLaws.{nodes_stay}
use Rattle.order_encode.proofs.GoalLaws.{allowed_is, tells_same}
use Rattle.order_encode.proofs.GrowthLaws.{◌>>◌}
use Rattle.order_encode.proofs.goal.allowed.Goals as goal

pub returns-clause-exact : goal.returns-clause-exact
returns-clause-exact c = IfOk-weaker c.and-2.result _ _ (λ w is v.
    let order = c.args.order.now in
    let f = comes order in
    let n = order.count in
    let g0 = c.args.sym.now in
    let g01 = c.in_order.ensures.grows in
    let g12 = c.in_order-2.ensures.grows in
    let g23 = c.and.ensures.grows in
    let g34 = circuit_grows c.and.new.self c.is_below.new.sym c.is_below.ensures.grows in
    let g03 = g01 >> g12 >> g23 in
    let left = nodes g0 v c.args.left.now in
    let right = nodes g0 v c.args.right.now in
    let j = node g0 v c.args.place.now in
    let last = c.saturating_sub-last.result in
    let count : c.from.result ≡ n = cc in
    let last_is = c.saturating_sub-last.ensures ∙ ap (λ k. k - 1) count in
    let first = g12.bit c.in_ok-first.first c.in_ok-first.ensures.gives.owned v ∙ c.in_ok-first.ensures.gives.means v in
    let second = c.in_ok-second.ensures.gives.means v ∙ ap (is_in_order f n) (nodes_stay g0 c.in_order.new.sym c.args.right.now g01 c.requires.right v) in
    let both = g34.bit c.in_ok-both.both c.in_ok-both.ensures.gives.owned v ∙ c.in_ok-both.ensures.gives.means v ∙ (λ i. first i && second i) in
    let placed = c.in_ok-placed.ensures.value v ∙ ap (λ k. nat_lt k last) (g03.code c.args.place.now c.requires.place v) in
    let told = is.means v ∙ (λ i. both i && placed i) in
    let exact = allowed_is order j last left right last_is in
    tells_same told exact) c.and-2.ensures.gives

pub returns-in_err-second-clause-grows : goal.returns-in_err-second-clause-grows
returns-in_err-second-clause-grows c = c.in_order.ensures.grows >> c.in_order-2.ensures.grows

pub returns-in_err-both-clause-grows : goal.returns-in_err-both-clause-grows
returns-in_err-both-clause-grows c = c.in_order.ensures.grows >> c.in_order-2.ensures.grows >> c.and.ensures.grows

pub returns-in_err-placed-clause-grows : goal.returns-in_err-placed-clause-grows
returns-in_err-placed-clause-grows c = c.in_order.ensures.grows >> c.in_order-2.ensures.grows >> c.and.ensures.grows >> circuit_grows c.and.new.self c.is_below.new.sym c.is_below.ensures.grows

pub returns-clause-grows : goal.returns-clause-grows
returns-clause-grows c = c.in_order.ensures.grows >> c.in_order-2.ensures.grows >> c.and.ensures.grows >> circuit_grows c.and.new.self c.is_below.new.sym c.is_below.ensures.grows >> c.and-2.ensures.grows
