use Rattle.std.proofs.Common.{◌≡◌, ◌⊎◌, true, map, subst}
use Rattle.std.specs.Prelude.{◌↔◌}
use Rattle.bool_circuit.specs.Gates.{wire_value}
use Rattle.fs_semantics.specs.Orders.{IsFree}
use Rattle.fs_lang.specs.Meaning.{program_of}
use Rattle.orders.specs.Relation.{Comes}
use Rattle.order_encode.specs.Goals.{EndApartAt}
use Rattle.order_encode.proofs.GoalLaws.{tells_same}
use Rattle.order_encode.proofs.PairLaws.{either_is}
use Rattle.order_encode.proofs.GrowthLaws.{◌>>◌}
use Rattle.order_encode.proofs.pairs.or_apart.Goals as goal

pub returns-clause-exact : goal.returns-clause-exact
returns-clause-exact c = λ v o h.
    let s1 = c.differ.new.sym in
    let s2 = c.mux.new.self in
    let any = c.args.goal.now.wire.0 in
    let one = c.in_ok-one.one.0 in
    let w = c.in_ok-more.more in
    let apart = EndApartAt (map program_of c.args.plan.now.programs) o c.args.nodes.one c.args.nodes.other in
    let free = IsFree (Comes c.args.plan.now.order) c.args.nodes.one c.args.nodes.other in
    let both = either_is {F = free} {P = apart} (wire_value s1 v any) (wire_value s1 v one) (c.free.ensures.0 c.if-not-free.false) (c.in_ok-one.ensures.exact v o h) in
    let kept = c.differ.ensures.grows.bit c.args.goal.now.wire c.requires.goal v in
    subst (λ b. (wire_value s2 v w.0 ≡ true) ↔ ((b ≡ true) ⊎ (free × apart))) kept (tells_same (c.in_ok-more.ensures.gives.means v) both)

pub returns-in_err-more-clause-grows : goal.returns-in_err-more-clause-grows
returns-in_err-more-clause-grows c = c.differ.ensures.grows >> c.mux.ensures.grows

pub returns-in_err-push-clause-grows : goal.returns-in_err-push-clause-grows
returns-in_err-push-clause-grows c = c.differ.ensures.grows >> c.mux.ensures.grows

pub returns-clause-grows : goal.returns-clause-grows
returns-clause-grows c = c.differ.ensures.grows >> c.mux.ensures.grows
