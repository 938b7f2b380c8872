use Rattle.std.proofs.Common.{length, ◌+◌}
use Rattle.sym_run.proofs.codes.+pick_with.Given as goal

abbrev pub decreases-pick_with : goal.decreases-pick_with
decreases-pick_with l = length l.a.now + length l.b.now
