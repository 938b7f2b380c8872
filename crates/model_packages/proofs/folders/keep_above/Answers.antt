use Rattle.model_packages.proofs.KeptLaws.{next_front}
use Rattle.model_packages.proofs.folders.keep_above.Goals as goal

pub loop-n-preserved : goal.loop-n-preserved
loop-n-preserved c =
    next_front c.args.set.now c.loop-n.set c.insert.new.self c.loop-n.n c.args.p.now c.in_ok-above.above c.loop-n.invariant c.in_ok-above.ensures c.in_ok-insert.ensures.paths
