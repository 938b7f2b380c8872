use Rattle.std.proofs.Common.{◌≡◌, ◌++◌, map}
use Rattle.fs_lang.specs.Meaning.{program_of}
use Rattle.model_semantics.specs.Words.{sweep, from_depth, deepest_first}
use Rattle.model_words.proofs.steps.push_sweeps.Given as goal

abbrev pub invariant-loop-depth : goal.invariant-loop-depth
invariant-loop-depth l = map program_of l.steps ++ map sweep (from_depth l.depth l.paths) ≡ map program_of l.fn.steps ++ map sweep (deepest_first l.paths)

abbrev pub decreases-loop-depth : goal.decreases-loop-depth
decreases-loop-depth l = l.depth
