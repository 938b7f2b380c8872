use Rattle.std.proofs.Common.{◌≡◌, ◌<◌, subst, ◌∙◌}
use Rattle.sym_run.specs.Numbers.{twice}
use Rattle.sym_run.proofs.CircuitLaws.{circuit_grows, wires_stay}
use Rattle.order_circuit.proofs.RunLaws.{rows_stay}
use Rattle.order_encode.proofs.AskLaws.{asks_every}
use Rattle.order_encode.proofs.GrowthLaws.{◌>>◌}
use Rattle.order_encode.proofs.asking.order_inputs.Goals as goal

pub returns-clause-asking : goal.returns-clause-asking
returns-clause-asking c =
    let d = c.args.domain.now in
    let n = c.args.n in
    let width = c.width_for-width.result in
    let g0 = c.args.sym.now in
    let g1 = c.new_code.new.sym in
    let g2 = c.new_codes.new.sym in
    let g3 = c.any_tree.new.sym in
    let cells = c.in_ok-cells.cells in
    let codes = c.in_ok-codes.codes in
    let place = c.in_ok-place.place in
    let tree = c.in_ok-cells.ensures in
    let rows = c.in_ok-codes.ensures in
    let one = c.in_ok-place.ensures in
    let g01 = c.new_code.ensures.grows in
    let g12 = c.new_codes.ensures.grows in
    let g23 = c.any_tree.ensures.grows in
    let asked : c.from.result ≡ n = cc in
    let told : c.from-2.result ≡ n = cc in
    let long = rows.long ∙ told in
    let wide = subst (λ k. k < twice width) asked c.width_for-width.ensures.enough in
    record {
      trees = record { are_cells = tree.cells; places = tree.places; owned = tree.wire; exact = tree.exact };
      long = long;
      codes = rows_stay g2 g3 codes g23 rows.wires;
      place = g23.owns_code place (wires_stay g1 g2 place g12 one.wires);
      every = asks_every d g0 g1 g2 g3 cells codes place n width g01 g12 g23 one.wires rows.wires long wide one.every one.same
          (λ u want h. rows.every u want (λ i l. h i (subst (λ k. i < k) told l))) rows.same tree.every;
    }

pub returns-in_err-place-clause-grows : goal.returns-in_err-place-clause-grows
returns-in_err-place-clause-grows c = circuit_grows c.args.sym.now c.new_code.new.sym c.new_code.ensures.grows

pub returns-in_err-codes-clause-grows : goal.returns-in_err-codes-clause-grows
returns-in_err-codes-clause-grows c = circuit_grows c.args.sym.now c.new_code.new.sym c.new_code.ensures.grows >> circuit_grows c.new_code.new.sym c.new_codes.new.sym c.new_codes.ensures.grows

pub returns-in_err-cells-clause-grows : goal.returns-in_err-cells-clause-grows
returns-in_err-cells-clause-grows c = circuit_grows c.args.sym.now c.new_code.new.sym c.new_code.ensures.grows >> circuit_grows c.new_code.new.sym c.new_codes.new.sym c.new_codes.ensures.grows >> c.any_tree.ensures.grows

pub returns-clause-grows : goal.returns-clause-grows
returns-clause-grows c = circuit_grows c.args.sym.now c.new_code.new.sym c.new_code.ensures.grows >> circuit_grows c.new_code.new.sym c.new_codes.new.sym c.new_codes.ensures.grows >> c.any_tree.ensures.grows
