use Rattle.std.proofs.Common.{◌+◌, length, sym, ap, subst, ◌∙◌, arith}
use Rattle.std.proofs.lemmas.List.{length_push}
use Rattle.bool_circuit.specs.Gates.{input_count}
use Rattle.bool_circuit.proofs.Growth.{grows_more}
use Rattle.sym_run.specs.Inputs.{AreInputs}
use Rattle.sym_run.proofs.InputLaws.{inputs_stay, inputs_more}
use Rattle.sym_run.proofs.inputs.new_inputs.Goals as goal

pub loop-turn-preserved : goal.loop-turn-preserved
loop-turn-preserved c =
    let before = c.loop-turn.invariant in
    let old = c.args.sym.now in
    let mid = c.loop-turn.sym in
    let new = c.input.new.self in
    let ws = c.loop-turn.wires in
    let w = c.in_ok-wire.wire in
    record {
      long = ap length c.in_ok-push.ensures.ok ∙ length_push ws w ∙ ap (λ n. n + 1) before.long;
      inputs = subst (λ xs. AreInputs new (input_count old) xs) (sym c.in_ok-push.ensures.ok)
          (inputs_more new (input_count old) ws w (inputs_stay mid new (input_count old) ws c.input.ensures.grows before.inputs) c.in_ok-wire.ensures.wire
          (λ v. c.in_ok-wire.ensures.value v ∙ ap v (before.count ∙ ap (λ n. input_count old + n) (sym before.long))));
      count = c.in_ok-wire.ensures.inputs ∙ ap (λ n. n + 1) before.count ∙ omega arith;
      grows = grows_more old mid new before.grows c.input.ensures.grows;
    }
