use Rattle.std.proofs.Common.{◌≡◌, ◌==◌, ◌+◌, Bool, true, false, cond, refl, sym, ap, subst, ◌∙◌}
use Rattle.std.specs.Prelude.{◌||◌}
use Rattle.fs_interpreter.specs.States.{truth}
use Rattle.fs_interpreter.proofs.Frames.{grows_on}
use Rattle.order_places.specs.Places.{with_taken}
use Rattle.sym_run.specs.Bitwise.{BitsSoFar, bit_at}
use Rattle.sym_run.specs.Wires.{circuit_meanings}
use Rattle.sym_run.proofs.BitLaws.{own_later, bits_more}
use Rattle.order_circuit.specs.Codes.{node}
use Rattle.order_circuit.proofs.allowed.with_taken.Goals as goal

pub loop-i-preserved : goal.loop-i-preserved
loop-i-preserved c =
    let before = c.loop-i.invariant in
    let m0 = circuit_meanings c.args.sym.now in
    let m1 = circuit_meanings c.loop-i.sym in
    let m2 = circuit_meanings c.tells.new.sym in
    let m3 = circuit_meanings c.mux.new.self in
    let i = c.loop-i.i in
    let taken = c.args.taken.now in
    let code = c.args.code.now in
    let g12 = c.tells.ensures.grows in
    let g02 = grows_on m0 m1 m2 before.grows g12 in
    let g13 = grows_on m1 m2 m3 g12 c.mux.ensures.grows in
    let one = c.in_ok-one.one in
    let w = c.at.result.now in
    let w2 = c.at-in-loop-i.result.now in
    record {
      taken = own_later m1 m3 taken g13 before.taken;
      code = g13.owns_code code before.code;
      grows = grows_on m0 m1 m3 before.grows g13;
      more = subst (λ xs. BitsSoFar m3 (λ v. with_taken (bit_at m0 v taken) (node c.args.sym.now v code)) (i + 1) xs) (sym c.in_ok-push.ensures.ok)
          (bits_more m1 m3 (λ v. with_taken (bit_at m0 v taken) (node c.args.sym.now v code)) i c.loop-i.more one g13 before.more c.in_ok-one.ensures.gives.owned
          (λ v.
          let there = g02.bit w (c.requires.taken i w c.at.ensures) v ∙ sym (ap (truth (m0.bit v)) c.at.ensures) in
          let other = g02.bit w2 (c.requires.taken i w2 c.at-in-loop-i.ensures) v ∙ sym (ap (truth (m0.bit v)) c.at-in-loop-i.ensures) in
          let told = c.in_ok-here.ensures.value v ∙ ap (λ k. i == k) (before.grows.code code c.requires.code v) in
          c.in_ok-one.ensures.gives.means v ∙ (λ t. cond (there t) (other t) (told t)) ∙ or_is (bit_at m0 v taken i) (i == node c.args.sym.now v code)));
    }
  where
    or_is : (a b : Bool) → cond a a b ≡ (a || b)
    or_is true b = refl
    or_is false b = refl

pub returns-in_err-one-clause-grows : goal.returns-in_err-one-clause-grows
returns-in_err-one-clause-grows c =
    let m0 = circuit_meanings c.args.sym.now in
    let m1 = circuit_meanings c.loop-i.sym in
    let m2 = circuit_meanings c.tells.new.sym in
    grows_on m0 m2 (circuit_meanings c.mux.new.self) (grows_on m0 m1 m2 c.loop-i.invariant.grows c.tells.ensures.grows) c.mux.ensures.grows

pub returns-in_err-push-clause-grows : goal.returns-in_err-push-clause-grows
returns-in_err-push-clause-grows c =
    let m0 = circuit_meanings c.args.sym.now in
    let m1 = circuit_meanings c.loop-i.sym in
    let m2 = circuit_meanings c.tells.new.sym in
    grows_on m0 m2 (circuit_meanings c.mux.new.self) (grows_on m0 m1 m2 c.loop-i.invariant.grows c.tells.ensures.grows) c.mux.ensures.grows
