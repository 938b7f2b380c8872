use Rattle.std.proofs.Common.{◌+◌, ◌*◌, ap, ◌∙◌}
use Rattle.bool_circuit.specs.Gates.{wire_value}
use Rattle.sym_run.specs.Wires.{number, bit_number}
use Rattle.sym_run.proofs.CircuitLaws.{number_snoc, number_stays, halves}
use Rattle.sym_run.proofs.codes.+code_wires.Goals as goal
use Rattle.fs_interpreter.proofs.HasLaws.{if_ok}

pub returns-in_ok-last-clause-value : goal.returns-in_ok-last-clause-value
returns-in_ok-last-clause-value t c = if_ok _ _ c.with_last.result (λ ws is inputs.
    let v2 = wire_value c.constant.new.self inputs in
    let front = number_stays _ _ c.in_ok-front.front c.constant.ensures.grows c.in_ok-front.ensures.own inputs ∙ c.in_ok-front.ensures.value inputs in
    let last = c.in_ok-last.ensures.value inputs in
    ap (number v2) is ∙ number_snoc v2 c.in_ok-front.front c.in_ok-last.last ∙ (λ i. 2 * front i + bit_number (last i)) ∙ halves c.args.n) c.with_last.ensures
