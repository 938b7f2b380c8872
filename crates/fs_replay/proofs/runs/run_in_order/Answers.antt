use Rattle.std.proofs.Common.{◌<◌, length, get_or}
use Rattle.fs_replay.proofs.OutcomeLaws.{covers_at}
use Rattle.fs_replay.proofs.runs.run_in_order.Goals as goal
use Rattle.fs_interpreter.proofs.AsideLaws.{all_at}

pub run_plain-requires-clause-covers : goal.run_plain-requires-clause-covers
run_plain-requires-clause-covers c =
    covers_at c.args.table.now c.args.programs.now (get_or c.args.order.now c.loop-i.i-index 0) c.index-programs-i.result c.requires.covers
    (all_at (λ i. i < length c.args.programs.now) c.args.order.now c.loop-i.i-index c.requires.below c.loop-i-test.true) c.index-programs-i.is
