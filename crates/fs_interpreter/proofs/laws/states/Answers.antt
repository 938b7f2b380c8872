use Rattle.fs_interpreter.proofs.StateLaws.{one_entry, one_outcome}
use Rattle.fs_interpreter.proofs.laws.states.Goals as goal

pub returns-clause-entry : goal.returns-clause-entry
returns-clause-entry c = one_entry

pub returns-clause-outcome : goal.returns-clause-outcome
returns-clause-outcome c = one_outcome
