use Rattle.std.proofs.Common.{length}
use Rattle.sym_run.proofs.below.+less_with.Given as goal

abbrev pub decreases-less_with : goal.decreases-less_with
decreases-less_with l = length l.wires.now
