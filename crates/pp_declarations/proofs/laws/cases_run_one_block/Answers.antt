use Rattle.pp_declarations.proofs.ChoiceLaws.{case_runs}
use Rattle.pp_declarations.proofs.laws.cases_run_one_block.Goals as goal

pub returns : goal.returns
returns c = case_runs
