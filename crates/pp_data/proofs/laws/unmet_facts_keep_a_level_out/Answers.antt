use Rattle.pp_data.proofs.LookupLaws.{missing_out, no_result_out}
use Rattle.pp_data.proofs.laws.unmet_facts_keep_a_level_out.Goals as goal

pub returns-clause-missing : goal.returns-clause-missing
returns-clause-missing c = missing_out

pub returns-clause-no_result : goal.returns-clause-no_result
returns-clause-no_result c = no_result_out
