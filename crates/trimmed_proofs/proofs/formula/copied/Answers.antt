use Rattle.std.proofs.Common.{arith}
use Rattle.trimmed_proofs.proofs.CopyLaws.{copy_more}
use Rattle.trimmed_proofs.proofs.formula.copied.Goals as goal

pub loop-i-preserved : goal.loop-i-preserved
loop-i-preserved c = copy_more c.args.cnf.now c.loop-i.copy c.add_copy.new.into c.loop-i.i (omega arith) c.loop-i.invariant c.in_ok-add_copy.ensures
