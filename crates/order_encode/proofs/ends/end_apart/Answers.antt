use Rattle.std.proofs.Common.{◌≡◌, ◌+◌, ◌-◌, ◌<◌, ◌∷◌, length, take, drop, map, Some, sym, ap, subst, subst₂, ◌∙◌, arith}
use Rattle.std.proofs.lemmas.Result.{IfOk-weaker}
use Rattle.std.proofs.lemmas.List.{length-map}
use Rattle.std.specs.Prelude.{slice_index_or}
use Rattle.bool_circuit.specs.Gates.{wire_value}
use Rattle.fs_semantics.specs.Programs.{and_then}
use Rattle.fs_semantics.specs.Orders.{outcome}
use Rattle.fs_lang.specs.Meaning.{program_of}
use Rattle.fs_interpreter.specs.States.{state_of}
use Rattle.fs_interpreter.specs.Standing.{StandsFor}
use Rattle.fs_interpreter.proofs.Frames.{cells_stay}
use Rattle.sym_run.specs.Wires.{circuit_meanings}
use Rattle.order_circuit.specs.Codes.{node, nodes, AreRows}
use Rattle.order_circuit.proofs.RunLaws.{nodes_stay, rows_stay}
use Rattle.orders.specs.Relation.{comes}
use Rattle.order_places.specs.Places.{exchanged}
use Rattle.order_encode.specs.Goals.{AreFreeNodes}
use Rattle.order_encode.proofs.WitnessLaws.{strict_is, exchanged_long}
use Rattle.order_encode.proofs.ForkLaws.{rows_behind, nodes_ahead, nodes_behind, next_of, differ_by, same_for, apart_is_whole}
use Rattle.order_encode.proofs.GrowthLaws.{◌>>◌, still_stands}
use Rattle.order_encode.proofs.ends.end_apart.Goals as goal

pub code_at-requires-2-clause-codes : goal.code_at-requires-2-clause-codes
code_at-requires-2-clause-codes c =
    let g0 = c.args.sym.now in
    let g2 = c.code_at.new.sym in
    let g02 = c.run_plan.ensures.grows >> c.code_at.ensures.grows in
    subst (AreRows g2) (sym c.split_at-2.ensures.back) (rows_behind g2 1 c.args.codes.now (rows_stay g0 g2 c.args.codes.now g02 c.requires.codes))

pub end_apart_from-requires-clause-rest : goal.end_apart_from-requires-clause-rest
end_apart_from-requires-clause-rest c =
    let g0 = c.args.sym.now in
    let g3 = c.code_at-2.new.sym in
    let g03 = c.run_plan.ensures.grows >> c.code_at.ensures.grows >> c.code_at-2.ensures.grows in
    subst (AreRows g3) (sym c.split_at-3.ensures.back) (rows_behind g3 2 c.args.codes.now (rows_stay g0 g3 c.args.codes.now g03 c.requires.codes))

pub end_apart_from-requires-clause-fork : goal.end_apart_from-requires-clause-fork
end_apart_from-requires-clause-fork c = record {
  first = c.code_at-2.ensures.grows.owns_code c.in_ok-first.first c.in_ok-first.ensures.wires;
  second = c.in_ok-second.ensures.wires;
  cells = cells_stay _ _ _ (c.code_at.ensures.grows >> c.code_at-2.ensures.grows) c.in_ok-cells.ensures.cells;
  places = c.in_ok-cells.ensures.places;
}

pub returns-clause-exact : goal.returns-clause-exact
returns-clause-exact c = IfOk-weaker c.end_apart_from.result _ _ (λ w is v t h allowed.
    let table = c.args.plan.now.domain.table in
    let es = map program_of c.args.plan.now.programs in
    let order = c.args.plan.now.order in
    let n = order.count in
    let before = comes order in
    let codes = c.args.codes.now in
    let place = c.args.place.now in
    let fork = c.in_ok-cells.cells in
    let g0 = c.args.sym.now in
    let g1 = c.run_plan.new.sym in
    let g2 = c.code_at.new.sym in
    let g3 = c.code_at-2.new.sym in
    let m1 = circuit_meanings g1 in
    let g01 = c.run_plan.ensures.grows in
    let g12 = c.code_at.ensures.grows in
    let g23 = c.code_at-2.ensures.grows in
    let g02 = g01 >> g12 in
    let g03 = g02 >> g23 in
    let g13 = g12 >> g23 in
    let xs = nodes g0 v codes in
    let j = node g0 v place in
    let a = slice_index_or xs j 0 in
    let b = slice_index_or xs (j + 1) 0 in
    let back = drop j (drop 2 xs) in
    let long = length-map codes (node g0 v) in
    let many = long ∙ c.requires.long in
    let placed = allowed.placed in
    let inside : j + 1 < length xs = omega (arith, placed, many) in
    let strict = strict_is order c.count-nodes.ensures.ordered in
    let left = (c.allowed_orders.ensures.exact n before xs strict many).0 allowed.first in
    let right = (c.allowed_orders.ensures.exact n before (exchanged j xs) strict (exchanged_long j xs ∙ many)).0 allowed.second in
    let low = c.places.ensures.below n before xs j inside left right in
    let free : AreFreeNodes order a b = record { first = low.0; second = low.1; free = c.places.ensures.free n before xs j inside left right } in
    let o = outcome es (take j (take (length xs - 2) xs)) t in
    let front_is : nodes g0 v c.split_at.result.0.now ≡ take (length xs - 2) xs =
    ap (nodes g0 v) c.split_at.ensures.front ∙ nodes_ahead g0 v (length codes - 2) codes ∙ ap (λ k. take (k - 2) xs) (sym long) in
    let fork1 = subst (λ ns. StandsFor table (state_of m1 v fork) (outcome es (take j ns) t)) front_is (c.in_ok-cells.ensures.stands v (Some t) h) in
    let fork3 = still_stands table o g13 c.in_ok-cells.ensures.cells v fork1 in
    let first_is : node g3 v c.in_ok-first.first ≡ a =
    g23.code c.in_ok-first.first c.in_ok-first.ensures.wires v ∙ c.in_ok-first.ensures.value v ∙ (λ i. slice_index_or (nodes_stay g0 g1 codes g01 c.requires.codes v i) (g01.code place c.requires.place v i) 0) in
    let seconds_is : nodes g2 v c.split_at-2.result.1.now ≡ drop 1 xs =
    ap (nodes g2 v) c.split_at-2.ensures.back ∙ nodes_behind g2 v 1 codes ∙ ap (drop 1) (nodes_stay g0 g2 codes g02 c.requires.codes v) in
    let second_is : node g3 v c.in_ok-second.second ≡ b =
    c.in_ok-second.ensures.value v ∙ (λ i. slice_index_or (seconds_is i) (g02.code place c.requires.place v i) 0) ∙ next_of j xs in
    let rest_is : nodes g3 v c.split_at-3.result.1.now ≡ drop 2 xs =
    ap (nodes g3 v) c.split_at-3.ensures.back ∙ nodes_behind g3 v 2 codes ∙ ap (drop 2) (nodes_stay g0 g3 codes g03 c.requires.codes v) in
    let j_is = g03.code place c.requires.place v in
    let told = is v o fork3 (subst₂ (AreFreeNodes order) (sym first_is) (sym second_is) free) in
    let one : and_then o (outcome es (node g3 v c.in_ok-first.first ∷ node g3 v c.in_ok-second.second ∷ drop (node g3 v place) (nodes g3 v c.split_at-3.result.1.now))) ≡ and_then o (outcome es (a ∷ b ∷ back)) =
    λ i. and_then o (outcome es (first_is i ∷ second_is i ∷ drop (j_is i) (rest_is i))) in
    let other : and_then o (outcome es (node g3 v c.in_ok-second.second ∷ node g3 v c.in_ok-first.first ∷ drop (node g3 v place) (nodes g3 v c.split_at-3.result.1.now))) ≡ and_then o (outcome es (b ∷ a ∷ back)) =
    λ i. and_then o (outcome es (second_is i ∷ first_is i ∷ drop (j_is i) (rest_is i))) in
    let whole = c.places.ensures.whole xs j inside in
    let exchanged_is = c.places.ensures.exchanged xs j inside in
    same_for (wire_value c.end_apart_from.new.sym v w.wire.0) (same_for (wire_value c.end_apart_from.new.sym v w.wire.0) told (differ_by _ _ _ _ one other)) (apart_is_whole es j xs a b t whole exchanged_is)) c.end_apart_from.ensures.exact

pub returns-in_err-first-clause-grows : goal.returns-in_err-first-clause-grows
returns-in_err-first-clause-grows c = c.run_plan.ensures.grows >> c.code_at.ensures.grows

pub returns-in_err-second-clause-grows : goal.returns-in_err-second-clause-grows
returns-in_err-second-clause-grows c = c.run_plan.ensures.grows >> c.code_at.ensures.grows >> c.code_at-2.ensures.grows

pub returns-clause-grows : goal.returns-clause-grows
returns-clause-grows c = c.run_plan.ensures.grows >> c.code_at.ensures.grows >> c.code_at-2.ensures.grows >> c.end_apart_from.ensures.grows
