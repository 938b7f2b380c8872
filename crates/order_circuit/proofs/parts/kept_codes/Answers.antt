use Rattle.std.proofs.Common.{◌≡◌, ◌+◌, cond, nat_lt, [], ◌∷◌, ◌++◌, drop, sym, ap, subst, ◌∙◌}
use Rattle.std.proofs.lemmas.List.{append_assoc}
use Rattle.fs_interpreter.proofs.Frames.{grows_on}
use Rattle.sym_run.specs.Wires.{circuit_meanings}
use Rattle.sym_run.proofs.CircuitLaws.{circuit_grows}
use Rattle.order_circuit.specs.Codes.{AreRows, node, nodes, kept_from}
use Rattle.order_circuit.proofs.RunLaws.{rows_stay, rows_more, nodes_stay, nodes_more, row_at, nodes_from}
use Rattle.order_circuit.proofs.parts.kept_codes.Goals as goal

pub returns-in_err-reached-clause-grows : goal.returns-in_err-reached-clause-grows
returns-in_err-reached-clause-grows c = grows_on (circuit_meanings c.args.sym.now) (circuit_meanings c.loop-k.sym) (circuit_meanings c.is_below.new.sym) c.loop-k.invariant.grows (circuit_grows c.loop-k.sym c.is_below.new.sym c.is_below.ensures.grows)

pub kept_code-requires-clause-code : goal.kept_code-requires-clause-code
kept_code-requires-clause-code c =
    let g12 = circuit_grows c.loop-k.sym c.is_below.new.sym c.is_below.ensures.grows in
    row_at c.is_below.new.sym c.args.part.now.codes.now c.loop-k.k c.index-codes-k.result c.index-codes-k.is (rows_stay c.loop-k.sym c.is_below.new.sym c.args.part.now.codes.now g12 c.loop-k.invariant.codes) c.loop-k-test.true

pub returns-in_err-one-clause-grows : goal.returns-in_err-one-clause-grows
returns-in_err-one-clause-grows c =
    let m0 = circuit_meanings c.args.sym.now in
    let m1 = circuit_meanings c.loop-k.sym in
    let m2 = circuit_meanings c.is_below.new.sym in
    grows_on m0 m2 (circuit_meanings c.kept_code.new.sym) (grows_on m0 m1 m2 c.loop-k.invariant.grows (circuit_grows c.loop-k.sym c.is_below.new.sym c.is_below.ensures.grows)) c.kept_code.ensures.grows

pub returns-in_err-push-clause-grows : goal.returns-in_err-push-clause-grows
returns-in_err-push-clause-grows c =
    let m0 = circuit_meanings c.args.sym.now in
    let m1 = circuit_meanings c.loop-k.sym in
    let m2 = circuit_meanings c.is_below.new.sym in
    grows_on m0 m2 (circuit_meanings c.kept_code.new.sym) (grows_on m0 m1 m2 c.loop-k.invariant.grows (circuit_grows c.loop-k.sym c.is_below.new.sym c.is_below.ensures.grows)) c.kept_code.ensures.grows

pub loop-k-preserved : goal.loop-k-preserved
loop-k-preserved c =
    let before = c.loop-k.invariant in
    let g0 = c.args.sym.now in
    let g1 = c.loop-k.sym in
    let g2 = c.is_below.new.sym in
    let g3 = c.kept_code.new.sym in
    let m0 = circuit_meanings g0 in
    let m1 = circuit_meanings g1 in
    let m2 = circuit_meanings g2 in
    let m3 = circuit_meanings g3 in
    let k = c.loop-k.k in
    let rows = c.args.part.now.codes.now in
    let place = c.args.part.now.place.now in
    let code = c.index-codes-k.result in
    let one = c.in_ok-one.one in
    let own0 = row_at g0 rows k code c.index-codes-k.is c.requires.codes c.loop-k-test.true in
    let g12 = circuit_grows g1 g2 c.is_below.ensures.grows in
    let g23 = c.kept_code.ensures.grows in
    let g13 = grows_on m1 m2 m3 g12 g23 in
    let g02 = grows_on m0 m1 m2 before.grows g12 in
    record {
      kept = subst (λ xs. AreRows g3 xs) (sym c.in_ok-push.ensures.ok) (rows_more g3 c.loop-k.kept one (rows_stay g1 g3 c.loop-k.kept g13 before.kept) c.in_ok-one.ensures.wires);
      codes = rows_stay g1 g3 rows g13 before.codes;
      place = g13.owns_code place before.place;
      grows = grows_on m0 m1 m3 before.grows g13;
      whole = λ v.
          let j = node g0 v place in
          let ahead = c.args.part.now.ahead in
          let blank = c.args.blank in
          let i = node g0 v code in
          let reached = c.in_ok-reached.ensures.value v ∙ ap (λ n. nat_lt n (k + 1)) (before.grows.code place c.requires.place v) in
          let one_is = c.in_ok-one.ensures.value v ∙ (λ t. cond (reached t) (cond ahead blank (g02.code code own0 v t)) (cond ahead (g02.code code own0 v t) blank)) in
          let told : nodes g3 v c.push.new.self ≡ nodes g1 v c.loop-k.kept ++ cond (nat_lt j (k + 1)) (cond ahead blank i) (cond ahead i blank) ∷ [] =
          ap (nodes g3 v) c.in_ok-push.ensures.ok ∙ nodes_more g3 v c.loop-k.kept one ∙ (λ t. nodes_stay g1 g3 c.loop-k.kept g13 before.kept v t ++ one_is t ∷ []) in
          (λ t. told t ++ kept_from ahead blank j (k + 1) (nodes g0 v (drop (k + 1) rows)))
          ∙ append_assoc (nodes g1 v c.loop-k.kept) (cond (nat_lt j (k + 1)) (cond ahead blank i) (cond ahead i blank) ∷ []) (kept_from ahead blank j (k + 1) (nodes g0 v (drop (k + 1) rows)))
          ∙ ap (λ xs. nodes g1 v c.loop-k.kept ++ kept_from ahead blank j k xs) (sym (nodes_from g0 v rows k code c.index-codes-k.is c.loop-k-test.true))
          ∙ before.whole v;
    }
