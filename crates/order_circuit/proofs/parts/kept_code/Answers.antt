use Rattle.fs_interpreter.proofs.Frames.{grows_on}
use Rattle.sym_run.specs.Wires.{circuit_meanings}
use Rattle.order_circuit.proofs.parts.kept_code.Goals as goal

pub returns-then-ahead-clause-grows : goal.returns-then-ahead-clause-grows
returns-then-ahead-clause-grows c = grows_on (circuit_meanings c.args.sym.now) (circuit_meanings c.code.new.self) (circuit_meanings c.pick.new.self) c.code.ensures.grows c.pick.ensures.grows

pub returns-clause-grows : goal.returns-clause-grows
returns-clause-grows c = grows_on (circuit_meanings c.args.sym.now) (circuit_meanings c.code.new.self) (circuit_meanings c.pick-else-ahead.new.self) c.code.ensures.grows c.pick-else-ahead.ensures.grows
