use Rattle.std.proofs.Common.{refl}
use Rattle.fs_replay.proofs.CompareLaws.{both_end}
use Rattle.fs_replay.proofs.comparing.same_tree.Goals as goal

pub returns-in-None-next : goal.returns-in-None-next
returns-in-None-next c = (
  λ h. both_end c.args.a.now c.args.b.now _ _ c.in-None.ensures.steps.0 c.in-None-next.ensures.steps.0 c.loop-p.invariant.0,
  λ h. refl,
)
