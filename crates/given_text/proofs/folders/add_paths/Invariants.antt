use Rattle.std.proofs.Common.{◌≡◌, drop}
use Rattle.given_text.specs.Reading.{with_paths, HasOnlyFolders}
use Rattle.given_text.proofs.folders.add_paths.Given as goal

-- with the rest of the paths it is what it is with all
abbrev pub invariant-loop-path : goal.invariant-loop-path
invariant-loop-path l = (with_paths l.tree (drop l.path-index l.paths) ≡ with_paths l.initial.tree l.paths) × HasOnlyFolders l.tree
