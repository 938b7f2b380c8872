use Rattle.std.proofs.Common.{sym, subst}
use Rattle.fs_interpreter.specs.States.{State}
use Rattle.fs_interpreter.specs.Standing.{StandsFor}
use Rattle.fs_interpreter.proofs.Frames.{grows_on}
use Rattle.sym_run.specs.Wires.{circuit_meanings}
use Rattle.order_circuit.proofs.runs.run_one.Goals as goal

pub returns-in_err-sym_apply-clause-grows : goal.returns-in_err-sym_apply-clause-grows
returns-in_err-sym_apply-clause-grows c = grows_on (circuit_meanings c.args.sym.now) (circuit_meanings c.copy_cells.new.sym) (circuit_meanings c.sym_apply.new.sym) c.copy_cells.ensures.grows c.sym_apply.ensures.grows

pub returns-clause-stands : goal.returns-clause-stands
returns-clause-stands c = λ v o h. c.in_ok-sym_apply.ensures.stands v o (subst (λ (s : State). StandsFor c.args.domain.now.table s o) (sym (c.in_ok-made.ensures.told v)) h)

pub returns-clause-grows : goal.returns-clause-grows
returns-clause-grows c = grows_on (circuit_meanings c.args.sym.now) (circuit_meanings c.copy_cells.new.sym) (circuit_meanings c.sym_apply.new.sym) c.copy_cells.ensures.grows c.sym_apply.ensures.grows
