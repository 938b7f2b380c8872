use Rattle.bool_circuit.specs.Gates.{input_count}
use Rattle.sym_run.proofs.InputLaws.{inputs_are_wires}
use Rattle.sym_run.proofs.CellLaws.{code_every, code_same}
use Rattle.sym_run.proofs.inputs.new_code.Goals as goal

pub returns-clause-wires : goal.returns-clause-wires
returns-clause-wires c = inputs_are_wires c.new_inputs.new.sym (input_count c.args.sym.now) c.in_ok-code.code c.in_ok-code.ensures.inputs

pub returns-clause-every : goal.returns-clause-every
returns-clause-every c = λ u x. code_every c.new_inputs.new.sym (input_count c.args.sym.now) (input_count c.new_inputs.new.sym) c.args.width c.in_ok-code.code c.in_ok-code.ensures.inputs c.in_ok-code.ensures.long c.in_ok-code.ensures.count u x

pub returns-clause-same : goal.returns-clause-same
returns-clause-same c = λ u v. code_same c.new_inputs.new.sym (input_count c.args.sym.now) (input_count c.new_inputs.new.sym) c.args.width c.in_ok-code.code c.in_ok-code.ensures.inputs c.in_ok-code.ensures.long c.in_ok-code.ensures.count u v
