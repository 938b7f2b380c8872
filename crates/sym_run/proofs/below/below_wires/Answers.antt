use Rattle.std.proofs.Common.{nat_lt, ap, ◌∙◌}
use Rattle.bool_circuit.specs.Gates.{wire_value}
use Rattle.sym_run.specs.Wires.{number}
use Rattle.sym_run.proofs.CircuitLaws.{number_stays}
use Rattle.sym_run.proofs.NumberLaws.{less_none}
use Rattle.sym_run.proofs.below.below_wires.Goals as goal
use Rattle.fs_interpreter.proofs.HasLaws.{if_ok}

pub returns-clause-value : goal.returns-clause-value
returns-clause-value c = if_ok _ _ c.less_with.result (λ w is v.
    let same = number_stays _ _ c.args.wires.now c.constant.ensures.grows c.requires.wires v in
    let off = c.in_ok-zero.ensures.value v in
    is v ∙ less_none (number (wire_value c.constant.new.self v) c.args.wires.now) c.args.n (wire_value c.constant.new.self v c.in_ok-zero.zero.0) off
    ∙ ap (λ m. nat_lt m c.args.n) same) c.less_with.ensures.value
