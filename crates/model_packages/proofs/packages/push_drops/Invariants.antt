use Rattle.std.proofs.Common.{◌≡◌, ◌++◌, drop, map}
use Rattle.fs_lang.specs.Meaning.{program_of}
use Rattle.model_semantics.specs.Words.{drop_file}
use Rattle.model_packages.proofs.packages.push_drops.Given as goal

-- the steps so far, with those that are still to be added
abbrev pub invariant-loop-file : goal.invariant-loop-file
invariant-loop-file l = map program_of l.steps ++ map (λ f. drop_file f.path) (drop l.file-index l.files) ≡ map program_of l.initial.steps ++ map (λ f. drop_file f.path) l.files
