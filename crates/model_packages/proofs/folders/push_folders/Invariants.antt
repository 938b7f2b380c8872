use Rattle.std.proofs.Common.{◌≡◌, ◌++◌, drop, map}
use Rattle.fs_lang.specs.Meaning.{program_of}
use Rattle.model_semantics.specs.Words.{dir}
use Rattle.model_semantics.specs.Rows.{folders_of}
use Rattle.model_packages.proofs.folders.push_folders.Given as goal

-- the steps so far, with those that are still to be added
abbrev pub invariant-loop-pair : goal.invariant-loop-pair
invariant-loop-pair l = map program_of l.steps ++ map dir (map (λ e. e.1) (drop l.pair-index l.pair-items)) ≡ map program_of l.fn.steps ++ map dir (folders_of l.p l.m)
