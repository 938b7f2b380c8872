use Rattle.std.proofs.Common.{length, map}
use Rattle.fs_lang.specs.Meaning.{program_of}
use Rattle.repair.specs.Steps.{AreLeft}
use Rattle.repair.proofs.leaving.leave_out.Given as goal

abbrev pub invariant-loop-arrow : goal.invariant-loop-arrow
invariant-loop-arrow l = AreLeft (map program_of l.plan.programs.now) l.plan.order.now l.arrows l.rest l.needed

abbrev pub decreases-loop-arrow : goal.decreases-loop-arrow
decreases-loop-arrow l = length l.rest
