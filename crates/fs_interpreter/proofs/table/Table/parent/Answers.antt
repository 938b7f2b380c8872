use Rattle.fs_interpreter.proofs.TableLaws.{parent_seen}
use Rattle.fs_interpreter.proofs.table.Table.parent.Goals as goal

pub returns-clause-below : goal.returns-clause-below
returns-clause-below c = parent_seen c.self.inside c.args.self.now c.args.i c.index.result.now c.self.view_is c.self.invariant c.requires c.index.ensures
