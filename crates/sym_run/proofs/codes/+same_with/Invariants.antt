use Rattle.std.proofs.Common.{length, ◌+◌}
use Rattle.sym_run.proofs.codes.+same_with.Given as goal

abbrev pub decreases-same_with : goal.decreases-same_with
decreases-same_with l = length l.a.now + length l.b.now
