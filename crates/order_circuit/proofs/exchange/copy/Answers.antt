use Rattle.fs_interpreter.proofs.Frames.{grows_on}
use Rattle.sym_run.specs.Wires.{circuit_meanings}
use Rattle.order_circuit.proofs.exchange.copy.Goals as goal

pub returns-clause-grows : goal.returns-clause-grows
returns-clause-grows c = grows_on (circuit_meanings c.args.sym.now) (circuit_meanings c.constant.new.self) (circuit_meanings c.pick.new.self) c.constant.ensures.grows c.pick.ensures.grows
