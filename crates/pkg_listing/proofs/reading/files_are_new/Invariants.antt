use Rattle.std.proofs.Common.{◌≡◌, ◌++◌, drop, map}
use Rattle.pkg_listing.specs.Packages.{are_new}
use Rattle.pkg_listing.proofs.reading.files_are_new.Given as goal

-- what was seen, with what is still to be seen
abbrev pub invariant-loop-file : goal.invariant-loop-file
invariant-loop-file l =
    (are_new l.seen (map (λ f. f.path) (drop l.file-index l.files)) ≡ are_new l.initial.seen (map (λ f. f.path) l.files))
    × (l.seen ++ map (λ f. f.path) (drop l.file-index l.files) ≡ l.initial.seen ++ map (λ f. f.path) l.files)
