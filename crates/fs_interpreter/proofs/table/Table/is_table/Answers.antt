use Rattle.std.proofs.Common.{subst}
use Rattle.fs_interpreter.specs.Places.{IsTable}
use Rattle.fs_interpreter.proofs.table.Table.is_table.Goals as goal

pub returns : goal.returns
returns c = subst IsTable c.self.view_is c.self.invariant.table
