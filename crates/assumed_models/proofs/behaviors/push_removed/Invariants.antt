use Rattle.std.proofs.Common.{◌≡◌, ◌++◌, drop, map}
use Rattle.fs_lang.specs.Meaning.{program_of}
use Rattle.model_semantics.specs.Words.{drop_file}
use Rattle.assumed_models.proofs.behaviors.push_removed.Given as goal

-- the steps so far, with those of the paths that are left
abbrev pub invariant-loop-p : goal.invariant-loop-p
invariant-loop-p l = map program_of l.steps ++ map drop_file (drop l.p-index l.paths) ≡ map program_of l.initial.steps ++ map drop_file l.paths
