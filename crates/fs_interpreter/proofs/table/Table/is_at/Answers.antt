use Rattle.std.proofs.Common.{arith}
use Rattle.fs_interpreter.proofs.TableLaws.{at_seen, past_seen}
use Rattle.fs_interpreter.proofs.table.Table.is_at.Goals as goal

pub returns-then-i-len : goal.returns-then-i-len
returns-then-i-len c = at_seen c.self.inside c.args.self.now c.args.i c.index.result.now c.args.p.now c.eq.result c.self.view_is (omega arith) c.index.ensures c.eq.ensures

pub returns-else-i-len : goal.returns-else-i-len
returns-else-i-len c = ((λ h. cc), (λ h. absurd (past_seen c.self.inside c.args.self.now c.args.i c.args.p.now c.self.view_is (omega arith) h)))
