use Rattle.std.proofs.Common.{◌≡◌, ◌==◌, cond, sym, ap, ◌∙◌}
use Rattle.std.specs.Prelude.{◌&&◌, not}
use Rattle.fs_interpreter.specs.States.{truth}
use Rattle.fs_interpreter.proofs.Frames.{grows_on}
use Rattle.sym_run.specs.Wires.{circuit_meanings}
use Rattle.order_circuit.proofs.allowed.may_stand.Goals as goal
use Rattle.fs_interpreter.proofs.HasLaws.{if_ok}

pub returns-in_err-fresh-clause-grows : goal.returns-in_err-fresh-clause-grows
returns-in_err-fresh-clause-grows c = grows_on (circuit_meanings c.args.sym.now) (circuit_meanings c.all_taken.new.sym) (circuit_meanings c.not.new.self) c.all_taken.ensures.grows c.not.ensures.grows

pub returns-in_err-ready-clause-grows : goal.returns-in_err-ready-clause-grows
returns-in_err-ready-clause-grows c =
    let m0 = circuit_meanings c.args.sym.now in
    let m1 = circuit_meanings c.all_taken.new.sym in
    let m2 = circuit_meanings c.not.new.self in
    grows_on m0 m2 (circuit_meanings c.and.new.self) (grows_on m0 m1 m2 c.all_taken.ensures.grows c.not.ensures.grows) c.and.ensures.grows

pub returns-in_err-here-clause-grows : goal.returns-in_err-here-clause-grows
returns-in_err-here-clause-grows c =
    let m0 = circuit_meanings c.args.sym.now in
    let m1 = circuit_meanings c.all_taken.new.sym in
    let m2 = circuit_meanings c.not.new.self in
    let m3 = circuit_meanings c.and.new.self in
    grows_on m0 m3 (circuit_meanings c.tells.new.sym) (grows_on m0 m2 m3 (grows_on m0 m1 m2 c.all_taken.ensures.grows c.not.ensures.grows) c.and.ensures.grows) c.tells.ensures.grows

pub returns-in_err-sure-clause-grows : goal.returns-in_err-sure-clause-grows
returns-in_err-sure-clause-grows c =
    let m0 = circuit_meanings c.args.sym.now in
    let m1 = circuit_meanings c.all_taken.new.sym in
    let m2 = circuit_meanings c.not.new.self in
    let m3 = circuit_meanings c.and.new.self in
    let m4 = circuit_meanings c.tells.new.sym in
    let g02 = grows_on m0 m1 m2 c.all_taken.ensures.grows c.not.ensures.grows in
    let g04 = grows_on m0 m3 m4 (grows_on m0 m2 m3 g02 c.and.ensures.grows) c.tells.ensures.grows in
    grows_on m0 m4 (circuit_meanings c.constant.new.self) g04 c.constant.ensures.grows

pub returns-clause-grows : goal.returns-clause-grows
returns-clause-grows c =
    let m0 = circuit_meanings c.args.sym.now in
    let m1 = circuit_meanings c.all_taken.new.sym in
    let m2 = circuit_meanings c.not.new.self in
    let m3 = circuit_meanings c.and.new.self in
    let m4 = circuit_meanings c.tells.new.sym in
    let m5 = circuit_meanings c.constant.new.self in
    let g02 = grows_on m0 m1 m2 c.all_taken.ensures.grows c.not.ensures.grows in
    let g04 = grows_on m0 m3 m4 (grows_on m0 m2 m3 g02 c.and.ensures.grows) c.tells.ensures.grows in
    grows_on m0 m5 (circuit_meanings c.mux.new.self) (grows_on m0 m4 m5 g04 c.constant.ensures.grows) c.mux.ensures.grows

pub returns-clause-gives : goal.returns-clause-gives
returns-clause-gives c = if_ok _ _ c.mux.result (λ w is. record {
  owned = is.owned;
  means = λ v.
      let taken = c.args.taken.now in
      let code = c.args.code.now in
      let i = c.args.i in
      let m0 = circuit_meanings c.args.sym.now in
      let m1 = circuit_meanings c.all_taken.new.sym in
      let m2 = circuit_meanings c.not.new.self in
      let m3 = circuit_meanings c.and.new.self in
      let m4 = circuit_meanings c.tells.new.sym in
      let m5 = circuit_meanings c.constant.new.self in
      let g01 = c.all_taken.ensures.grows in
      let g12 = c.not.ensures.grows in
      let g02 = grows_on m0 m1 m2 g01 g12 in
      let g03 = grows_on m0 m2 m3 g02 c.and.ensures.grows in
      let g45 = c.constant.ensures.grows in
      let g35 = grows_on m3 m4 m5 c.tells.ensures.grows g45 in
      let one = c.at.result.now in
      let there = g01.bit one (c.requires.taken i one c.at.ensures) v ∙ sym (ap (truth (m0.bit v)) c.at.ensures) in
      let fresh = c.in_ok-fresh.ensures.gives.means v ∙ ap not there in
      let told = g12.bit c.in_ok-told.told c.in_ok-told.ensures.gives.owned v ∙ c.in_ok-told.ensures.gives.means v in
      let ready = g35.bit c.in_ok-ready.ready c.in_ok-ready.ensures.gives.owned v ∙ c.in_ok-ready.ensures.gives.means v ∙ (λ t. fresh t && told t) in
      let number_is : c.from.result ≡ i = cc in
      let here = g45.bit c.in_ok-here.here c.in_ok-here.ensures.wire v ∙ c.in_ok-here.ensures.value v ∙ (λ t. number_is t == g03.code code c.requires.code v t) in
      is.means v ∙ (λ t. cond (here t) (ready t) (c.in_ok-sure.ensures.gives.means v t));
}) c.mux.ensures.gives
