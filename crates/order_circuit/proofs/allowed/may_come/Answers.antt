use Rattle.std.proofs.Common.{◌≡◌, nat_lt, ◌∙◌}
use Rattle.std.specs.Prelude.{◌&&◌}
use Rattle.fs_interpreter.proofs.Frames.{grows_on}
use Rattle.orders.specs.Relation.{comes}
use Rattle.sym_run.specs.Bitwise.{bit_at}
use Rattle.sym_run.specs.Wires.{circuit_meanings}
use Rattle.sym_run.proofs.CircuitLaws.{circuit_grows}
use Rattle.order_circuit.specs.Codes.{node}
use Rattle.order_circuit.proofs.FollowLaws.{ready_is}
use Rattle.order_circuit.proofs.allowed.may_come.Goals as goal
use Rattle.fs_interpreter.proofs.HasLaws.{if_ok}

pub returns-in_err-below-clause-grows : goal.returns-in_err-below-clause-grows
returns-in_err-below-clause-grows c =
    let s1 = c.all_stand.new.sym in
    let s2 = c.is_below.new.sym in
    grows_on (circuit_meanings c.args.sym.now) (circuit_meanings s1) (circuit_meanings s2) c.all_stand.ensures.grows (circuit_grows s1 s2 c.is_below.ensures.grows)

pub returns-clause-grows : goal.returns-clause-grows
returns-clause-grows c =
    let s1 = c.all_stand.new.sym in
    let s2 = c.is_below.new.sym in
    let m0 = circuit_meanings c.args.sym.now in
    let m1 = circuit_meanings s1 in
    let m2 = circuit_meanings s2 in
    grows_on m0 m2 (circuit_meanings c.and.new.self) (grows_on m0 m1 m2 c.all_stand.ensures.grows (circuit_grows s1 s2 c.is_below.ensures.grows)) c.and.ensures.grows

pub returns-clause-gives : goal.returns-clause-gives
returns-clause-gives c = if_ok _ _ c.and.result (λ w is. record {
  owned = is.owned;
  means = λ v.
      let order = c.args.order.now in
      let n = order.count in
      let s1 = c.all_stand.new.sym in
      let g12 = circuit_grows s1 c.is_below.new.sym c.is_below.ensures.grows in
      let code = c.args.code.now in
      let m0 = circuit_meanings c.args.sym.now in
      let taken = bit_at m0 v c.args.taken.now in
      let k = node c.args.sym.now v code in
      let count : c.from.result ≡ n = cc in
      let below = c.in_ok-below.ensures.value v ∙ (λ t. nat_lt (c.all_stand.ensures.grows.code code c.requires.code v t) (count t)) in
      let all = g12.bit c.in_ok-all.all c.in_ok-all.ensures.gives.owned v ∙ c.in_ok-all.ensures.gives.means v in
      is.means v ∙ (λ t. below t && all t) ∙ ready_is (comes order) n taken k;
}) c.and.ensures.gives
