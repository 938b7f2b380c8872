use Rattle.std.proofs.Common.{◌≡◌, ◌≢◌, true, Some, map, ap, subst, subst₂, sym, ◌∙◌}
use Rattle.std.specs.Prelude.{◌&&◌, ◌↔◌}
use Rattle.bool_circuit.specs.Gates.{wire_value}
use Rattle.fs_semantics.specs.FileTree.{Tree}
use Rattle.fs_semantics.specs.Orders.{outcome}
use Rattle.fs_lang.specs.Meaning.{program_of}
use Rattle.fs_interpreter.specs.States.{state_of}
use Rattle.fs_interpreter.specs.Standing.{Stands}
use Rattle.fs_interpreter.proofs.Frames.{cells_stay}
use Rattle.order_places.specs.Places.{exchanged}
use Rattle.sym_run.specs.Wires.{circuit_meanings}
use Rattle.order_circuit.specs.Codes.{node, nodes, AreRows}
use Rattle.order_circuit.proofs.RunLaws.{nodes_stay, rows_stay}
use Rattle.orders.specs.Relation.{Relation}
use Rattle.order_encode.specs.Goals.{AreAllowed}
use Rattle.order_encode.specs.Plans.{Planned}
use Rattle.order_encode.proofs.GoalLaws.{apart_is, tells_same}
use Rattle.order_encode.proofs.ForkLaws.{same_for, differ_by}
use Rattle.order_encode.proofs.GrowthLaws.{◌>>◌, still_stands}
use Rattle.order_encode.proofs.goal.goal.Goals as goal

pub returns-clause-exact : goal.returns-clause-exact
returns-clause-exact c = λ v.
    let order = c.args.plan.now.order in
    let d = c.args.plan.now.domain in
    let es = map program_of c.args.plan.now.programs in
    let a = c.args.asking.now in
    let asks = c.requires.asking in
    let g0 = c.args.sym.now in
    let s1 = c.exchanged_codes.new.sym in
    let s2 = c.allowed.new.sym in
    let s3 = c.and.new.self in
    let s4 = c.end_apart.new.sym in
    let m0 = circuit_meanings g0 in
    let g01 = c.exchanged_codes.ensures.grows in
    let g12 = c.allowed.ensures.grows in
    let g23 = c.and.ensures.grows in
    let g34 = c.end_apart.ensures.grows in
    let g02 = g01 >> g12 in
    let g03 = g02 >> g23 in
    let j = node g0 v a.place in
    let left = nodes g0 v a.codes in
    let right = c.in_ok-right.right in
    let here = c.as_slice-left.ensures in
    let right1 = c.in_ok-right.ensures.value v ∙ ap (λ xs. exchanged j (nodes g0 v xs)) here in
    let left1 = nodes_stay g0 s1 a.codes g01 asks.codes v in
    let left3 = nodes_stay g0 s3 a.codes g03 asks.codes v in
    let j1 = g01.code a.place asks.place v in
    let order_is = ap (λ (p : Planned). p.order) c.plan.view_is in
    let fine = subst (λ (r : Relation). (wire_value s2 v c.in_ok-fine.fine.0 ≡ true) ↔ AreAllowed r (node s1 v a.place) (nodes s1 v c.as_slice-left.result.now) (nodes s1 v c.as_slice.result.now)) order_is (c.in_ok-fine.ensures.exact v) in
    let allowed : (wire_value s2 v c.in_ok-fine.fine.0 ≡ true) ↔ AreAllowed order j left (exchanged j left) =
    subst (λ k. (wire_value s2 v c.in_ok-fine.fine.0 ≡ true) ↔ AreAllowed order k left (exchanged j left)) j1
    (subst (λ ns. (wire_value s2 v c.in_ok-fine.fine.0 ≡ true) ↔ AreAllowed order (node s1 v a.place) ns (exchanged j left)) (ap (nodes s1 v) here ∙ left1)
    (subst (λ ns. (wire_value s2 v c.in_ok-fine.fine.0 ≡ true) ↔ AreAllowed order (node s1 v a.place) (nodes s1 v c.as_slice-left.result.now) ns) (ap (nodes s1 v) c.as_slice.ensures ∙ right1) fine)) in
    let left_is : nodes s3 v c.as_slice-left.result.now ≡ left = ap (nodes s3 v) here ∙ left3 in
    let j3 = g03.code a.place asks.place v in
    let right_is : exchanged (node s3 v a.place) (nodes s3 v c.as_slice-left.result.now) ≡ exchanged j left = λ x. exchanged (j3 x) (left_is x) in
    let differ : (t : Tree) → Stands d.table (state_of m0 v a.cells) t → AreAllowed order j left (exchanged j left) → (wire_value s4 v c.in_ok-differ.differ.wire.0 ≡ true) ↔ (outcome es left t ≢ outcome es (exchanged j left) t) = λ t h fine.
    let h3 = still_stands d.table (Some t) g03 asks.trees.are_cells v h in
    let fine3 = subst (λ k. AreAllowed order k (nodes s3 v c.as_slice-left.result.now) (exchanged (node s3 v a.place) (nodes s3 v c.as_slice-left.result.now))) (sym j3)
    (subst₂ (AreAllowed order j) (sym left_is) (sym right_is) fine) in
    same_for (wire_value s4 v c.in_ok-differ.differ.wire.0) (c.in_ok-differ.ensures.exact v t h3 fine3) (differ_by _ _ _ _ (ap (λ xs. outcome es xs t) left_is) (ap (λ xs. outcome es xs t) right_is)) in
    let exact = apart_is g0 d a.cells a.well es order j left (exchanged j left) v (wire_value s2 v c.in_ok-fine.fine.0) (wire_value s4 v c.in_ok-differ.differ.wire.0) asks.trees allowed differ in
    let both = g34.bit c.in_ok-both.both c.in_ok-both.ensures.gives.owned v ∙ c.in_ok-both.ensures.gives.means v ∙ ap (λ b. b && wire_value s2 v c.in_ok-fine.fine.0) (g02.bit a.well asks.trees.owned v) in
    let told = c.in_ok-wire.ensures.gives.means v ∙ ap (λ b. b && wire_value s4 v c.in_ok-differ.differ.wire.0) both in
    tells_same told exact

pub end_apart-requires-clause-cells : goal.end_apart-requires-clause-cells
end_apart-requires-clause-cells c = cells_stay _ _ _ (c.exchanged_codes.ensures.grows >> c.allowed.ensures.grows >> c.and.ensures.grows) c.requires.asking.trees.are_cells

pub end_apart-requires-clause-codes : goal.end_apart-requires-clause-codes
end_apart-requires-clause-codes c = subst (AreRows c.and.new.self) (sym c.as_slice-left.ensures) (rows_stay c.args.sym.now c.and.new.self c.args.asking.now.codes (c.exchanged_codes.ensures.grows >> c.allowed.ensures.grows >> c.and.ensures.grows) c.requires.asking.codes)

pub returns-in_err-fine-clause-grows : goal.returns-in_err-fine-clause-grows
returns-in_err-fine-clause-grows c = c.exchanged_codes.ensures.grows >> c.allowed.ensures.grows

pub returns-in_err-both-clause-grows : goal.returns-in_err-both-clause-grows
returns-in_err-both-clause-grows c = c.exchanged_codes.ensures.grows >> c.allowed.ensures.grows >> c.and.ensures.grows

pub returns-in_err-differ-clause-grows : goal.returns-in_err-differ-clause-grows
returns-in_err-differ-clause-grows c = c.exchanged_codes.ensures.grows >> c.allowed.ensures.grows >> c.and.ensures.grows >> c.end_apart.ensures.grows

pub returns-clause-grows : goal.returns-clause-grows
returns-clause-grows c = c.exchanged_codes.ensures.grows >> c.allowed.ensures.grows >> c.and.ensures.grows >> c.end_apart.ensures.grows >> c.and-2.ensures.grows

pub returns-in_err-wire-clause-grows : goal.returns-in_err-wire-clause-grows
returns-in_err-wire-clause-grows c = c.exchanged_codes.ensures.grows >> c.allowed.ensures.grows >> c.and.ensures.grows >> c.end_apart.ensures.grows >> c.and-2.ensures.grows
