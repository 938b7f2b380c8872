use Rattle.std.proofs.Common.{◌≡◌, ◌+◌, ◌<◌, Bool, true, false, drop, refl, sym, ap, subst, ◌∙◌, arith}
use Rattle.std.specs.Prelude.{◌&&◌}
use Rattle.bool_circuit.specs.Gates.{wire_value}
use Rattle.fs_interpreter.proofs.Frames.{grows_on}
use Rattle.orders.specs.Relation.{comes}
use Rattle.order_places.specs.Places.{is_ready, with_taken, may_follow}
use Rattle.sym_run.specs.Bitwise.{bit_at}
use Rattle.sym_run.specs.Wires.{circuit_meanings}
use Rattle.sym_run.proofs.BitLaws.{own_later, bit_stays}
use Rattle.order_circuit.specs.Codes.{node, nodes}
use Rattle.order_circuit.proofs.FollowLaws.{follow_same}
use Rattle.order_circuit.proofs.RunLaws.{row_at, nodes_from}
use Rattle.order_circuit.proofs.allowed.in_order.Goals as goal

pub loop-code-preserved : goal.loop-code-preserved
loop-code-preserved c =
    let before = c.loop-code.invariant in
    let order = c.args.order.now in
    let n = order.count in
    let f = comes order in
    let i = c.loop-code.code-index in
    let code = c.code-item.result in
    let m0 = circuit_meanings c.args.sym.now in
    let m1 = circuit_meanings c.loop-code.sym in
    let m2 = circuit_meanings c.may_come.new.sym in
    let m3 = circuit_meanings c.and.new.self in
    let m4 = circuit_meanings c.with_taken.new.sym in
    let g12 = c.may_come.ensures.grows in
    let g13 = grows_on m1 m2 m3 g12 c.and.ensures.grows in
    let g34 = c.with_taken.ensures.grows in
    let own = row_at c.args.sym.now c.args.codes.now i code c.code-item.is c.requires.codes c.loop-code-test.true in
    let next = c.in_ok-taken-2.ensures.gives in
    record {
      taken = next.owned;
      long = next.long ∙ before.long;
      wire = g34.owns c.in_ok-all-2.all c.in_ok-all-2.ensures.gives.owned;
      all = λ v.
          let same = before.grows.code code own v in
          let here : wire_value c.with_taken.new.sym v c.in_ok-all-2.all.0 ≡ (wire_value c.loop-code.sym v c.loop-code.all.0 && is_ready f n (bit_at m1 v c.loop-code.taken) (node c.args.sym.now v code)) =
          g34.bit c.in_ok-all-2.all c.in_ok-all-2.ensures.gives.owned v ∙ c.in_ok-all-2.ensures.gives.means v
          ∙ (λ t. g12.bit c.loop-code.all before.wire v t && (c.in_ok-may.ensures.gives.means v ∙ ap (is_ready f n (bit_at m1 v c.loop-code.taken)) same) t) in
          let rest = follow_same f n (bit_at m4 v c.in_ok-taken-2.taken) (with_taken (bit_at m1 v c.loop-code.taken) (node c.args.sym.now v code)) (nodes c.args.sym.now v (drop (i + 1) c.args.codes.now)) (λ j h.
          next.mean v j (subst (λ k. j < k) (sym before.long) h)
          ∙ (λ t. with_taken (λ k. bit_stays m1 m3 c.loop-code.taken g13 before.taken v k t) (((grows_on m0 m1 m3 before.grows g13).code code own v) t) j)) in
          (λ t. here t && rest t)
          ∙ both (wire_value c.loop-code.sym v c.loop-code.all.0) (is_ready f n (bit_at m1 v c.loop-code.taken) (node c.args.sym.now v code)) (may_follow f n (with_taken (bit_at m1 v c.loop-code.taken) (node c.args.sym.now v code)) (nodes c.args.sym.now v (drop (i + 1) c.args.codes.now)))
          ∙ ap (λ ns. wire_value c.loop-code.sym v c.loop-code.all.0 && may_follow f n (bit_at m1 v c.loop-code.taken) ns) (sym (nodes_from c.args.sym.now v c.args.codes.now i code c.code-item.is c.loop-code-test.true))
          ∙ before.all v;
      grows = grows_on m0 m3 m4 (grows_on m0 m1 m3 before.grows g13) g34;
    }
  where
    both : (a r b : Bool) → ((a && r) && b) ≡ (a && (r && b))
    both true r b = refl
    both false r b = refl

pub loop-code-init : goal.loop-code-init
loop-code-init c =
    let f = comes c.args.order.now in
    let n = c.args.order.now.count in
    let m0 = circuit_meanings c.args.sym.now in
    let m1 = circuit_meanings c.none_taken.new.sym in
    let m2 = circuit_meanings c.constant.new.self in
    let g12 = c.constant.ensures.grows in
    let none = c.in_ok-taken.ensures.gives in
    let taken = c.in_ok-taken.taken in
    let sure = c.in_ok-all.ensures.gives in
    record {
      taken = own_later m1 m2 taken g12 none.owned;
      long = none.long ∙ c.count.ensures.count;
      wire = sure.owned;
      all = λ v.
          let order = nodes c.args.sym.now v c.args.codes.now in
          (λ t. sure.means v t && may_follow f n (bit_at m2 v taken) order)
          ∙ follow_same f n (bit_at m2 v taken) (λ k. false) order (λ j h. bit_stays m1 m2 taken g12 none.owned v j ∙ none.mean v j (omega (arith, h, c.count.ensures.count)));
      grows = grows_on m0 m1 m2 c.none_taken.ensures.grows g12;
    }

pub returns-in_err-may-clause-grows : goal.returns-in_err-may-clause-grows
returns-in_err-may-clause-grows c = grows_on (circuit_meanings c.args.sym.now) (circuit_meanings c.loop-code.sym) (circuit_meanings c.may_come.new.sym) c.loop-code.invariant.grows c.may_come.ensures.grows

pub returns-in_err-all-2-clause-grows : goal.returns-in_err-all-2-clause-grows
returns-in_err-all-2-clause-grows c =
    let m0 = circuit_meanings c.args.sym.now in
    let m1 = circuit_meanings c.loop-code.sym in
    let m2 = circuit_meanings c.may_come.new.sym in
    grows_on m0 m2 (circuit_meanings c.and.new.self) (grows_on m0 m1 m2 c.loop-code.invariant.grows c.may_come.ensures.grows) c.and.ensures.grows

pub with_taken-requires-clause-taken : goal.with_taken-requires-clause-taken
with_taken-requires-clause-taken c =
    let m1 = circuit_meanings c.loop-code.sym in
    let m2 = circuit_meanings c.may_come.new.sym in
    let m3 = circuit_meanings c.and.new.self in
    own_later m1 m3 c.loop-code.taken (grows_on m1 m2 m3 c.may_come.ensures.grows c.and.ensures.grows) c.loop-code.invariant.taken

pub returns-in_err-taken-2-clause-grows : goal.returns-in_err-taken-2-clause-grows
returns-in_err-taken-2-clause-grows c =
    let m0 = circuit_meanings c.args.sym.now in
    let m1 = circuit_meanings c.loop-code.sym in
    let m2 = circuit_meanings c.may_come.new.sym in
    let m3 = circuit_meanings c.and.new.self in
    let g03 = grows_on m0 m2 m3 (grows_on m0 m1 m2 c.loop-code.invariant.grows c.may_come.ensures.grows) c.and.ensures.grows in
    grows_on m0 m3 (circuit_meanings c.with_taken.new.sym) g03 c.with_taken.ensures.grows
