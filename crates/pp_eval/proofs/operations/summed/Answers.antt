use Rattle.pp_value.specs.Table.{add_table}
use Rattle.pp_eval.proofs.operations.summed.Goals as goal

pub returns-in-Err : goal.returns-in-Err
returns-in-Err c = c.refused.ensures (add_table c.args.a c.args.b.now) c.in-Err.ensures
