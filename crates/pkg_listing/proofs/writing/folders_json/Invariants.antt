use Rattle.std.proofs.Common.{◌≡◌, ◌++◌, drop, map}
use Rattle.serde_json.specs.View.{view}
use Rattle.pkg_listing.specs.ListingText.{path_data}
use Rattle.pkg_listing.proofs.writing.folders_json.Given as goal

-- what was made, with what is still to be made
abbrev pub invariant-loop-folder : goal.invariant-loop-folder
invariant-loop-folder l = map view l.items.items ++ map path_data (drop l.folder-index l.folders) ≡ map path_data l.folders
