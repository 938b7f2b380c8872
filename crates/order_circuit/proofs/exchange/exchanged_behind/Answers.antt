use Rattle.std.proofs.Common.{◌≡◌, ◌==◌, ◌+◌, cond, [], ◌∷◌, ◌++◌, drop, sym, ap, subst, ◌∙◌}
use Rattle.std.proofs.lemmas.List.{append_assoc}
use Rattle.fs_interpreter.proofs.Frames.{grows_on}
use Rattle.sym_run.specs.Wires.{circuit_meanings}
use Rattle.order_circuit.specs.Codes.{AreRows, node, nodes}
use Rattle.order_circuit.proofs.ExchangeLaws.{exchanged_from, exchange_step}
use Rattle.order_circuit.proofs.RunLaws.{rows_stay, rows_more, nodes_stay, nodes_more, row_at, row_same, nodes_from}
use Rattle.order_circuit.proofs.exchange.exchanged_behind.Goals as goal

pub loop-k-preserved : goal.loop-k-preserved
loop-k-preserved c =
    let before = c.loop-k.invariant in
    let g0 = c.args.sym.now in
    let g1 = c.loop-k.sym in
    let g2 = c.tells.new.sym in
    let g3 = c.pick.new.self in
    let g4 = c.pick-in-loop-k.new.self in
    let k = c.loop-k.k in
    let rest = c.args.rest.now in
    let place = c.args.place.now in
    let code = c.index-rest-k.result in
    let held = c.loop-k.held in
    let next = c.in_ok-next.next in
    let here = c.in_ok-here.here in
    let own0 = row_at g0 rest k code c.index-rest-k.is c.requires.rest c.loop-k-test.true in
    let again = c.index-rest-k-in-loop-k.result in
    let again_is = row_same rest k code again c.index-rest-k.is c.index-rest-k-in-loop-k.is c.loop-k-test.true in
    let g12 = c.tells.ensures.grows in
    let g23 = c.pick.ensures.grows in
    let g34 = c.pick-in-loop-k.ensures.grows in
    let g13 = grows_on (circuit_meanings g1) (circuit_meanings g2) (circuit_meanings g3) g12 g23 in
    let g14 = grows_on (circuit_meanings g1) (circuit_meanings g3) (circuit_meanings g4) g13 g34 in
    let g02 = grows_on (circuit_meanings g0) (circuit_meanings g1) (circuit_meanings g2) before.grows g12 in
    let g03 = grows_on (circuit_meanings g0) (circuit_meanings g1) (circuit_meanings g3) before.grows g13 in
    record {
      held = c.in_ok-held-2.ensures.gives.owned;
      codes = subst (λ xs. AreRows g4 xs) (sym c.in_ok-push.ensures.ok) (rows_more g4 c.loop-k.codes next (rows_stay g1 g4 c.loop-k.codes g14 before.codes) (g34.owns_code next c.in_ok-next.ensures.gives.owned));
      rest = rows_stay g1 g4 rest g14 before.rest;
      place = g14.owns_code place before.place;
      grows = grows_on (circuit_meanings g0) (circuit_meanings g1) (circuit_meanings g4) before.grows g14;
      whole = λ v.
          let j = node g0 v place in
          let at = c.in_ok-here.ensures.value v ∙ ap (λ n. k == n) (before.grows.code place c.requires.place v) in
          let at3 = g23.bit here c.in_ok-here.ensures.wire v ∙ at in
          let new_next : node g4 v next ≡ cond (k == j) (node g0 v code) (node g1 v held) =
          g34.code next c.in_ok-next.ensures.gives.owned v ∙ c.in_ok-next.ensures.gives.means v
          ∙ (λ t. cond (at t) (g02.code code own0 v t) (g12.code held before.held v t)) in
          let last = ap (node c.pick.new.self v) again_is ∙ g03.code code own0 v in
          let new_held : node g4 v c.in_ok-held-2.held ≡ cond (k == j) (node g1 v held) (node g0 v code) =
          c.in_ok-held-2.ensures.gives.means v ∙ (λ t. cond (at3 t) (g13.code held before.held v t) (last t)) in
          let told : nodes g4 v c.push.new.self ≡ nodes g1 v c.loop-k.codes ++ cond (k == j) (node g0 v code) (node g1 v held) ∷ [] =
          ap (nodes g4 v) c.in_ok-push.ensures.ok ∙ nodes_more g4 v c.loop-k.codes next ∙ (λ t. nodes_stay g1 g4 c.loop-k.codes g14 before.codes v t ++ new_next t ∷ []) in
          (λ t. told t ++ exchanged_from (k + 1) j (new_held t ∷ nodes g0 v (drop (k + 1) rest)))
          ∙ append_assoc (nodes g1 v c.loop-k.codes) (cond (k == j) (node g0 v code) (node g1 v held) ∷ []) (exchanged_from (k + 1) j (cond (k == j) (node g1 v held) (node g0 v code) ∷ nodes g0 v (drop (k + 1) rest)))
          ∙ ap (λ xs. nodes g1 v c.loop-k.codes ++ xs) (sym (exchange_step k j (node g1 v held) (node g0 v code) (nodes g0 v (drop (k + 1) rest))))
          ∙ ap (λ xs. nodes g1 v c.loop-k.codes ++ exchanged_from k j (node g1 v held ∷ xs)) (sym (nodes_from g0 v rest k code c.index-rest-k.is c.loop-k-test.true))
          ∙ before.whole v;
    }

pub returns-in_err-next-clause-grows : goal.returns-in_err-next-clause-grows
returns-in_err-next-clause-grows c =
    let m0 = circuit_meanings c.args.sym.now in
    let m1 = circuit_meanings c.loop-k.sym in
    let m2 = circuit_meanings c.tells.new.sym in
    grows_on m0 m2 (circuit_meanings c.pick.new.self) (grows_on m0 m1 m2 c.loop-k.invariant.grows c.tells.ensures.grows) c.pick.ensures.grows

pub returns-in_err-held-2-clause-grows : goal.returns-in_err-held-2-clause-grows
returns-in_err-held-2-clause-grows c =
    let m0 = circuit_meanings c.args.sym.now in
    let m1 = circuit_meanings c.loop-k.sym in
    let m2 = circuit_meanings c.tells.new.sym in
    let m3 = circuit_meanings c.pick.new.self in
    let g03 = grows_on m0 m2 m3 (grows_on m0 m1 m2 c.loop-k.invariant.grows c.tells.ensures.grows) c.pick.ensures.grows in
    grows_on m0 m3 (circuit_meanings c.pick-in-loop-k.new.self) g03 c.pick-in-loop-k.ensures.grows

pub returns-in_err-push-clause-grows : goal.returns-in_err-push-clause-grows
returns-in_err-push-clause-grows c =
    let m0 = circuit_meanings c.args.sym.now in
    let m1 = circuit_meanings c.loop-k.sym in
    let m2 = circuit_meanings c.tells.new.sym in
    let m3 = circuit_meanings c.pick.new.self in
    let g03 = grows_on m0 m2 m3 (grows_on m0 m1 m2 c.loop-k.invariant.grows c.tells.ensures.grows) c.pick.ensures.grows in
    grows_on m0 m3 (circuit_meanings c.pick-in-loop-k.new.self) g03 c.pick-in-loop-k.ensures.grows
