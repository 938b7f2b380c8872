use Rattle.std.proofs.Common.{◌≡◌, ◌++◌, drop}
use Rattle.pkg_listing.specs.Packages.{are_new}
use Rattle.pkg_listing.proofs.reading.folders_are_new.Given as goal

-- what was seen, with what is still to be seen
abbrev pub invariant-loop-folder : goal.invariant-loop-folder
invariant-loop-folder l =
    (are_new l.seen (drop l.folder-index l.folders) ≡ are_new l.initial.seen l.folders)
    × (l.seen ++ drop l.folder-index l.folders ≡ l.initial.seen ++ l.folders)
