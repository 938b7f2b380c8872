use Rattle.std.proofs.Common.{◌≡◌, ◌++◌, drop, map}
use Rattle.fs_lang.specs.Meaning.{program_of}
use Rattle.model_semantics.specs.Words.{need}
use Rattle.assumed_models.proofs.behaviors.push_needs.Given as goal

-- the steps so far, with those of the paths that are left
abbrev pub invariant-loop-p : goal.invariant-loop-p
invariant-loop-p l = map program_of l.steps ++ map need (drop l.p-index l.paths) ≡ map program_of l.initial.steps ++ map need l.paths
