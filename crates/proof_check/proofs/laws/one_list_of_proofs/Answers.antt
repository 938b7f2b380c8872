use Rattle.proof_check.proofs.Spelling.{one_list}
use Rattle.proof_check.proofs.laws.one_list_of_proofs.Goals as goal

pub returns : goal.returns
returns c = one_list
