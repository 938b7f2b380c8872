use Rattle.order_encode.proofs.GrowthLaws.{◌>>◌}
use Rattle.order_encode.proofs.known.run_known.Goals as goal

pub returns-in_err-run_steps-clause-grows : goal.returns-in_err-run_steps-clause-grows
returns-in_err-run_steps-clause-grows c = c.copy_cells.ensures.grows >> c.run_steps.ensures.grows

pub returns-clause-grows : goal.returns-clause-grows
returns-clause-grows c = c.copy_cells.ensures.grows >> c.run_steps.ensures.grows
