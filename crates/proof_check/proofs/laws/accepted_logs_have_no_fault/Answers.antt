use Rattle.proof_check.proofs.Chains.{no_fault}
use Rattle.proof_check.proofs.laws.accepted_logs_have_no_fault.Goals as goal

pub returns : goal.returns
returns c = no_fault
