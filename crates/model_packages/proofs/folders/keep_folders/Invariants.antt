use Rattle.std.proofs.Common.{◌≡◌, [], ◌∷◌, ◌++◌, drop}
use Rattle.std.specs.List.{flat_map}
use Rattle.model_semantics.specs.Words.{ancestors, kept}
use Rattle.model_packages.proofs.folders.keep_folders.Given as goal

-- what is kept, with what is still to be kept
abbrev pub invariant-loop-d : goal.invariant-loop-d
invariant-loop-d l = kept l.set (flat_map (λ d. ancestors d ++ d ∷ []) (drop l.d-index l.folders)) ≡ kept l.initial.set (flat_map (λ d. ancestors d ++ d ∷ []) l.folders)
