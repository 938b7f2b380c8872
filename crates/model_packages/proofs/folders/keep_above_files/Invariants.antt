use Rattle.std.proofs.Common.{◌≡◌, drop}
use Rattle.std.specs.List.{flat_map}
use Rattle.model_semantics.specs.Words.{ancestors, kept}
use Rattle.model_packages.proofs.folders.keep_above_files.Given as goal

-- what is kept, with what is still to be kept
abbrev pub invariant-loop-file : goal.invariant-loop-file
invariant-loop-file l = kept l.set (flat_map (λ f. ancestors f.path) (drop l.file-index l.files)) ≡ kept l.initial.set (flat_map (λ f. ancestors f.path) l.files)
