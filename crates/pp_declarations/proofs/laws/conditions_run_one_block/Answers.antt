use Rattle.pp_declarations.proofs.ChoiceLaws.{condition_runs}
use Rattle.pp_declarations.proofs.laws.conditions_run_one_block.Goals as goal

pub returns : goal.returns
returns c = condition_runs
