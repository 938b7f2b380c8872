use Rattle.std.proofs.Common.{◌/◌, length, rules}
use Rattle.rh_base.proofs.memory.sinks.MemorySinkSink.put.Goals as goal

-- the front that was appended is the first half
pub returns-then-is_failing-clause-gives : goal.returns-then-is_failing-clause-gives
returns-then-is_failing-clause-gives c = (search rules, length c.args.piece.now / 2, search rules)
