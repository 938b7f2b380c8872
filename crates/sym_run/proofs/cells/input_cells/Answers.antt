use Rattle.std.proofs.Common.{◌≡◌, ◌+◌, ap, subst, ◌∙◌}
use Rattle.bool_circuit.specs.Gates.{input_count}
use Rattle.bool_circuit.proofs.Growth.{grows_more}
use Rattle.sym_run.specs.Inputs.{AreInputs, AreInputRows}
use Rattle.sym_run.proofs.InputLaws.{inputs_stay, rows_stay}
use Rattle.sym_run.proofs.cells.input_cells.Goals as goal

pub returns-in_err-error-clause-grows : goal.returns-in_err-error-clause-grows
returns-in_err-error-clause-grows c =
    grows_more _ _ _ (grows_more _ _ _ (grows_more _ _ _ (grows_more _ _ _ c.new_inputs.ensures.grows c.new_inputs-2.ensures.grows) c.new_inputs-3.ensures.grows) c.new_rows.ensures.grows) c.no_error.ensures.grows

pub returns-clause-cells : goal.returns-clause-cells
returns-clause-cells c =
    let g1 = c.new_inputs.new.sym in
    let g2 = c.new_inputs-2.new.sym in
    let g3 = c.new_inputs-3.new.sym in
    let g4 = c.new_rows.new.sym in
    let g5 = c.no_error.new.sym in
    let k = input_count c.args.sym.now in
    let n = c.args.n in
    let to5 = c.no_error.ensures.grows in
    let from3 = grows_more g3 g4 g5 c.new_rows.ensures.grows to5 in
    let from2 = grows_more g2 g3 g5 c.new_inputs-3.ensures.grows from3 in
    let from1 = grows_more g1 g2 g5 c.new_inputs-2.ensures.grows from2 in
    let one : input_count g1 ≡ k + n = c.in_ok-present.ensures.count in
    let two : input_count g2 ≡ k + n + n = c.in_ok-folder.ensures.count ∙ ap (λ j. j + n) one in
    let three : input_count g3 ≡ k + n + n + n = c.in_ok-link.ensures.count ∙ ap (λ j. j + n) two in
    record {
      presents = c.in_ok-present.ensures.long;
      folders = c.in_ok-folder.ensures.long;
      links = c.in_ok-link.ensures.long;
      contents = c.in_ok-content.ensures.long;
      present = inputs_stay g1 g5 k c.in_ok-present.present from1 c.in_ok-present.ensures.inputs;
      folder = subst (λ j. AreInputs g5 j c.in_ok-folder.folder) one (inputs_stay g2 g5 (input_count g1) c.in_ok-folder.folder from2 c.in_ok-folder.ensures.inputs);
      link = subst (λ j. AreInputs g5 j c.in_ok-link.link) two (inputs_stay g3 g5 (input_count g2) c.in_ok-link.link from3 c.in_ok-link.ensures.inputs);
      content = subst (λ j. AreInputRows g5 c.args.width j c.in_ok-content.content) three (rows_stay g4 g5 c.args.width (input_count g3) c.in_ok-content.content to5 c.in_ok-content.ensures.rows);
      error = c.in_ok-error.ensures.wire;
      no_error = c.in_ok-error.ensures.value;
    }

pub returns-clause-grows : goal.returns-clause-grows
returns-clause-grows c =
    grows_more _ _ _ (grows_more _ _ _ (grows_more _ _ _ (grows_more _ _ _ c.new_inputs.ensures.grows c.new_inputs-2.ensures.grows) c.new_inputs-3.ensures.grows) c.new_rows.ensures.grows) c.no_error.ensures.grows
