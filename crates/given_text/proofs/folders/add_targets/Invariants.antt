use Rattle.std.proofs.Common.{◌≡◌, drop, map}
use Rattle.given_text.specs.Reading.{with_paths, HasOnlyFolders}
use Rattle.given_text.proofs.folders.add_targets.Given as goal

-- with the rest of the targets it is what it is with all
abbrev pub invariant-loop-link : goal.invariant-loop-link
invariant-loop-link l = (with_paths l.tree (map (λ m. m.target) (drop l.link-index l.links)) ≡ with_paths l.initial.tree (map (λ m. m.target) l.links)) × HasOnlyFolders l.tree
