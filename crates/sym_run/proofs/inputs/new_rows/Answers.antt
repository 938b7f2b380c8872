use Rattle.std.proofs.Common.{◌+◌, ◌*◌, length, sym, ap, subst, ◌∙◌, arith}
use Rattle.std.proofs.lemmas.List.{length_push}
use Rattle.bool_circuit.specs.Gates.{input_count}
use Rattle.bool_circuit.proofs.Growth.{grows_more}
use Rattle.sym_run.specs.Inputs.{AreInputs, AreInputRows}
use Rattle.sym_run.proofs.InputLaws.{rows_stay, rows_more}
use Rattle.sym_run.proofs.inputs.new_rows.Goals as goal

pub loop-turn-preserved : goal.loop-turn-preserved
loop-turn-preserved c =
    let before = c.loop-turn.invariant in
    let old = c.args.sym.now in
    let mid = c.loop-turn.sym in
    let new = c.new_inputs.new.sym in
    let rows = c.loop-turn.rows in
    let row = c.in_ok-row.row in
    let width = c.args.width in
    record {
      long = ap length c.in_ok-push.ensures.ok ∙ length_push rows row ∙ ap (λ n. n + 1) before.long;
      inputs = subst (λ xs. AreInputRows new width (input_count old) xs) (sym c.in_ok-push.ensures.ok)
          (rows_more new width (input_count old) rows row (rows_stay mid new width (input_count old) rows c.new_inputs.ensures.grows before.inputs) c.in_ok-row.ensures.long
          (subst (λ k. AreInputs new k row) (before.count ∙ ap (λ n. input_count old + n * width) (sym before.long)) c.in_ok-row.ensures.inputs));
      count = c.in_ok-row.ensures.count ∙ ap (λ n. n + width) before.count ∙ omega arith;
      grows = grows_more old mid new before.grows c.new_inputs.ensures.grows;
    }
