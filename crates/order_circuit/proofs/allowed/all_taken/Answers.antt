use Rattle.std.proofs.Common.{◌≡◌, ◌+◌, ℕ, suc, Bool, true, false, refl, sym, ap, ◌∙◌, arith}
use Rattle.std.specs.Prelude.{◌&&◌, ◌||◌, ◌↔◌, not, IsTrue}
use Rattle.fs_interpreter.specs.States.{truth}
use Rattle.fs_interpreter.proofs.Frames.{grows_on}
use Rattle.orders.specs.Relation.{comes}
use Rattle.order_places.specs.Places.{all_taken}
use Rattle.sym_run.specs.Bitwise.{bit_at}
use Rattle.sym_run.specs.Wires.{circuit_meanings}
use Rattle.sym_run.proofs.BitLaws.{own_later, bit_stays}
use Rattle.order_circuit.proofs.allowed.all_taken.Goals as goal

pub loop-a-preserved : goal.loop-a-preserved
loop-a-preserved c =
    let before = c.loop-a.invariant in
    let m0 = circuit_meanings c.args.sym.now in
    let m1 = circuit_meanings c.loop-a.sym in
    let m2 = circuit_meanings c.and_needed.new.sym in
    let a = c.loop-a.a in
    let i = c.args.i in
    let taken = c.args.taken.now in
    let g12 = c.and_needed.ensures.grows in
    let earlier = same_truth c.before-earlier.result (comes c.args.order.now a i) c.before-earlier.ensures in
    record {
      taken = own_later m1 m2 taken g12 before.taken;
      grows = grows_on m0 m1 m2 before.grows g12;
      all = record {
        owned = c.in_ok-all-2.ensures.gives.owned;
        means = λ v. c.in_ok-all-2.ensures.gives.means v
            ∙ (λ t. before.all.means v t && (not (earlier t) || (ap (truth (m1.bit v)) (sym c.at.ensures) ∙ bit_stays m0 m1 taken before.grows c.requires.taken v a) t))
            ∙ ap (all_taken (comes c.args.order.now) (bit_at m0 v taken) i) (next a);
      };
    }
  where
    next : (n : ℕ) → suc n ≡ n + 1
    next n = omega arith

    same_truth : (a b : Bool) → IsTrue a ↔ IsTrue b → a ≡ b
    same_truth true b h = sym (h.0 refl)
    same_truth false true h = h.1 refl
    same_truth false false h = refl

pub loop-a-init : goal.loop-a-init
loop-a-init c =
    let m0 = circuit_meanings c.args.sym.now in
    let m1 = circuit_meanings c.constant.new.self in
    record {
      taken = own_later m0 m1 c.args.taken.now c.constant.ensures.grows c.requires.taken;
      all = c.in_ok-all.ensures.gives;
      grows = c.constant.ensures.grows;
    }

pub returns-in_err-all-2-clause-grows : goal.returns-in_err-all-2-clause-grows
returns-in_err-all-2-clause-grows c = grows_on (circuit_meanings c.args.sym.now) (circuit_meanings c.loop-a.sym) (circuit_meanings c.and_needed.new.sym) c.loop-a.invariant.grows c.and_needed.ensures.grows
