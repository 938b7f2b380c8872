use Rattle.std.proofs.Common.{◌≡◌, ◌++◌, map}
use Rattle.fs_lang.specs.Meaning.{program_of}
use Rattle.model_semantics.specs.Words.{fronts, dir}
use Rattle.model_words.proofs.steps.push_dirs.Given as goal

-- the folders of the fronts so far
abbrev pub invariant-loop-n : goal.invariant-loop-n
invariant-loop-n l = map program_of l.steps ≡ map program_of l.initial.steps ++ map dir (fronts l.n l.p)
