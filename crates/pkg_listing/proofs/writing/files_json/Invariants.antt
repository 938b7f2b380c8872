use Rattle.std.proofs.Common.{◌≡◌, ◌++◌, drop, map}
use Rattle.serde_json.specs.View.{view}
use Rattle.pkg_listing.specs.ListingText.{file_data}
use Rattle.pkg_listing.proofs.writing.files_json.Given as goal

-- what was made, with what is still to be made
abbrev pub invariant-loop-file : goal.invariant-loop-file
invariant-loop-file l = map view l.items.items ++ map file_data (drop l.file-index l.files) ≡ map file_data l.files
