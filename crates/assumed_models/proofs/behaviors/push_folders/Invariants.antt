use Rattle.std.proofs.Common.{◌≡◌, ◌++◌, drop, map}
use Rattle.std.specs.List.{flat_map}
use Rattle.fs_lang.specs.Meaning.{program_of}
use Rattle.assumed_models.specs.Behaviors.{folder_made}
use Rattle.assumed_models.proofs.behaviors.push_folders.Given as goal

-- the steps so far, with those of the paths that are left
abbrev pub invariant-loop-p : goal.invariant-loop-p
invariant-loop-p l = map program_of l.steps ++ flat_map folder_made (drop l.p-index l.paths) ≡ map program_of l.initial.steps ++ flat_map folder_made l.paths
