use Rattle.std.proofs.Common.{◌==◌, ◌<◌, cond, length, sym, ap, subst, ◌∙◌}
use Rattle.std.proofs.lemmas.List.{length-map}
use Rattle.fs_interpreter.proofs.Frames.{grows_on}
use Rattle.sym_run.specs.Wires.{circuit_meanings}
use Rattle.order_circuit.specs.Codes.{node, nodes}
use Rattle.order_circuit.proofs.PartLaws.{seen, seen_more, node_at}
use Rattle.order_circuit.proofs.RunLaws.{row_at, rows_stay}
use Rattle.order_circuit.proofs.parts.code_at.Goals as goal

pub returns-in_err-chosen-2-clause-grows : goal.returns-in_err-chosen-2-clause-grows
returns-in_err-chosen-2-clause-grows c =
    let m0 = circuit_meanings c.args.sym.now in
    let m1 = circuit_meanings c.loop-k.sym in
    let m2 = circuit_meanings c.tells.new.sym in
    grows_on m0 m2 (circuit_meanings c.pick.new.self) (grows_on m0 m1 m2 c.loop-k.invariant.grows c.tells.ensures.grows) c.pick.ensures.grows

pub loop-k-preserved : goal.loop-k-preserved
loop-k-preserved c =
    let before = c.loop-k.invariant in
    let g0 = c.args.sym.now in
    let m0 = circuit_meanings g0 in
    let m1 = circuit_meanings c.loop-k.sym in
    let m2 = circuit_meanings c.tells.new.sym in
    let m3 = circuit_meanings c.pick.new.self in
    let k = c.loop-k.k in
    let rows = c.args.codes.now in
    let place = c.args.place.now in
    let code = c.index-codes-k.result in
    let own0 = row_at g0 rows k code c.index-codes-k.is c.requires.codes c.loop-k-test.true in
    let g12 = c.tells.ensures.grows in
    let g23 = c.pick.ensures.grows in
    let g13 = grows_on m1 m2 m3 g12 g23 in
    let g02 = grows_on m0 m1 m2 before.grows g12 in
    record {
      chosen = c.in_ok-chosen-2.ensures.gives.owned;
      codes = rows_stay c.loop-k.sym c.pick.new.self rows g13 before.codes;
      place = g13.owns_code place before.place;
      grows = grows_on m0 m1 m3 before.grows g13;
      value = λ v.
          let j = node g0 v place in
          let at = c.in_ok-here.ensures.value v ∙ ap (λ n. k == n) (before.grows.code place c.requires.place v) in
          let long : k < length (nodes g0 v rows) = subst (λ n. k < n) (sym (length-map rows (node g0 v))) c.loop-k-test.true in
          c.in_ok-chosen-2.ensures.gives.means v
          ∙ (λ t. cond (at t) (g02.code code own0 v t) ((g12.code c.loop-k.chosen before.chosen v ∙ before.value v) t))
          ∙ (λ t. cond (k == j) (sym (node_at g0 v rows k code c.index-codes-k.is c.loop-k-test.true) t) (seen k j (nodes g0 v rows)))
          ∙ sym (seen_more k j (nodes g0 v rows) long);
    }
