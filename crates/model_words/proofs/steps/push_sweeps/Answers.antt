use Rattle.std.proofs.Common.{◌++◌, map}
use Rattle.fs_lang.specs.Meaning.{program_of}
use Rattle.model_semantics.specs.Words.{sweep, deepest_first}
use Rattle.model_words.proofs.StepLaws.{next_depth}
use Rattle.model_words.proofs.steps.push_sweeps.Goals as goal

pub loop-depth-preserved : goal.loop-depth-preserved
loop-depth-preserved c =
    next_depth c.loop-depth.depth c.args.paths.now (map program_of c.loop-depth.steps) (map program_of c.push_sweeps_at.new.steps)
    (map program_of c.args.steps.now ++ map sweep (deepest_first c.args.paths.now)) c.loop-depth-test.true c.in_ok-push_sweeps_at.ensures c.loop-depth.invariant
