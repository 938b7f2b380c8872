use Rattle.std.proofs.Common.{◌/◌, sym, ap, ◌∙◌}
use Rattle.bool_circuit.specs.Gates.{wire_value}
use Rattle.sym_run.specs.Wires.{number}
use Rattle.sym_run.specs.Numbers.{less_with}
use Rattle.sym_run.proofs.CircuitLaws.{number_stays}
use Rattle.sym_run.proofs.NumberLaws.{less_step}
use Rattle.sym_run.proofs.below.+less_with.Goals as goal
use Rattle.fs_interpreter.proofs.HasLaws.{if_ok}

pub returns-clause-value : goal.returns-clause-value
returns-clause-value t c = if_ok _ _ c.less_with.result (λ w is v.
    let v0 = wire_value c.args.circuit.now v in
    let front = number_stays _ _ c.apart.result.0.now c.bit_less.ensures.grows c.apart.ensures.front v in
    let behind = c.in_ok-behind.ensures.value v in
    let whole = c.apart.ensures.value v0 (c.requires.off v) in
    is v
    ∙ (λ i. less_with (front i) (c.args.n / 2) (behind i))
    ∙ sym (less_step (number v0 c.apart.result.0.now) c.args.n (v0 c.apart.result.1.0) (v0 c.args.rest.0))
    ∙ sym (ap (λ m. less_with m c.args.n (v0 c.args.rest.0)) whole)) c.less_with.ensures.value
