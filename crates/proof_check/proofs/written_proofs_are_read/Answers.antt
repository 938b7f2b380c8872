use Rattle.proof_check.proofs.Writing.{written_proofs, right_logs}
use Rattle.proof_check.proofs.written_proofs_are_read.Goals as goal

pub returns-clause-read : goal.returns-clause-read
returns-clause-read c = written_proofs

pub returns-clause-right : goal.returns-clause-right
returns-clause-right c = right_logs
