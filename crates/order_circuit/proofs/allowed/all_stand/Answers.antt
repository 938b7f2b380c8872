use Rattle.std.proofs.Common.{◌≡◌, ◌==◌, ◌+◌, ℕ, suc, true, cond, ap, ◌∙◌, arith}
use Rattle.std.specs.Prelude.{◌&&◌, not}
use Rattle.fs_interpreter.proofs.Frames.{grows_on}
use Rattle.orders.specs.Relation.{comes}
use Rattle.order_places.specs.Places.{all_taken}
use Rattle.sym_run.specs.Bitwise.{bit_at}
use Rattle.sym_run.specs.Wires.{circuit_meanings}
use Rattle.sym_run.proofs.BitLaws.{own_later, bit_stays}
use Rattle.order_circuit.specs.Codes.{node, all_stand}
use Rattle.order_circuit.proofs.allowed.all_stand.Goals as goal

pub loop-i-preserved : goal.loop-i-preserved
loop-i-preserved c =
    let before = c.loop-i.invariant in
    let m0 = circuit_meanings c.args.sym.now in
    let m1 = circuit_meanings c.loop-i.sym in
    let m2 = circuit_meanings c.may_stand.new.sym in
    let m3 = circuit_meanings c.and.new.self in
    let i = c.loop-i.i in
    let f = comes c.args.order.now in
    let count = c.args.order.now.count in
    let taken = c.args.taken.now in
    let code = c.args.code.now in
    let g12 = c.may_stand.ensures.grows in
    let g23 = c.and.ensures.grows in
    let g13 = grows_on m1 m2 m3 g12 g23 in
    record {
      taken = own_later m1 m3 taken g13 before.taken;
      code = g13.owns_code code before.code;
      grows = grows_on m0 m1 m3 before.grows g13;
      all = record {
        owned = c.in_ok-all-2.ensures.gives.owned;
        means = λ v. c.in_ok-all-2.ensures.gives.means v
            ∙ (λ t. (g12.bit c.loop-i.all before.all.owned v ∙ before.all.means v) t
            && (c.in_ok-one.ensures.gives.means v ∙ (λ s. cond (i == before.grows.code code c.requires.code v s) (not (bit_stays m0 m1 taken before.grows c.requires.taken v i s) && all_taken f (λ k. bit_stays m0 m1 taken before.grows c.requires.taken v k s) i count) true)) t)
            ∙ ap (all_stand f count (bit_at m0 v taken) (node c.args.sym.now v code)) (next i);
      };
    }
  where
    next : (n : ℕ) → suc n ≡ n + 1
    next n = omega arith

pub loop-i-init : goal.loop-i-init
loop-i-init c =
    let m0 = circuit_meanings c.args.sym.now in
    let m1 = circuit_meanings c.constant.new.self in
    record {
      taken = own_later m0 m1 c.args.taken.now c.constant.ensures.grows c.requires.taken;
      code = c.constant.ensures.grows.owns_code c.args.code.now c.requires.code;
      all = c.in_ok-all.ensures.gives;
      grows = c.constant.ensures.grows;
    }

pub returns-in_err-one-clause-grows : goal.returns-in_err-one-clause-grows
returns-in_err-one-clause-grows c = grows_on (circuit_meanings c.args.sym.now) (circuit_meanings c.loop-i.sym) (circuit_meanings c.may_stand.new.sym) c.loop-i.invariant.grows c.may_stand.ensures.grows

pub returns-in_err-all-2-clause-grows : goal.returns-in_err-all-2-clause-grows
returns-in_err-all-2-clause-grows c =
    let m0 = circuit_meanings c.args.sym.now in
    let m1 = circuit_meanings c.loop-i.sym in
    let m2 = circuit_meanings c.may_stand.new.sym in
    grows_on m0 m2 (circuit_meanings c.and.new.self) (grows_on m0 m1 m2 c.loop-i.invariant.grows c.may_stand.ensures.grows) c.and.ensures.grows
