use Rattle.bool_circuit.specs.Gates.{input_count}
use Rattle.sym_run.proofs.CellLaws.{rows_every, rows_same, rows_are_wires}
use Rattle.sym_run.proofs.inputs.new_codes.Goals as goal

pub returns-clause-wires : goal.returns-clause-wires
returns-clause-wires c = rows_are_wires c.new_rows.new.sym c.args.width (input_count c.args.sym.now) c.in_ok-codes.codes c.in_ok-codes.ensures.rows

pub returns-clause-every : goal.returns-clause-every
returns-clause-every c = λ u want. rows_every c.new_rows.new.sym (input_count c.args.sym.now) (input_count c.new_rows.new.sym) c.args.n c.args.width c.in_ok-codes.codes c.in_ok-codes.ensures.rows c.in_ok-codes.ensures.long c.in_ok-codes.ensures.count u want

pub returns-clause-same : goal.returns-clause-same
returns-clause-same c = λ u v. rows_same c.new_rows.new.sym (input_count c.args.sym.now) (input_count c.new_rows.new.sym) c.args.n c.args.width c.in_ok-codes.codes c.in_ok-codes.ensures.rows c.in_ok-codes.ensures.long c.in_ok-codes.ensures.count u v
