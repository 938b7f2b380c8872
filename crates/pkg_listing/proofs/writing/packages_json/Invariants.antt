use Rattle.std.proofs.Common.{◌≡◌, take}
use Rattle.serde_json.specs.View.{members_view}
use Rattle.pkg_listing.specs.ListingText.{packages_data}
use Rattle.pkg_listing.proofs.writing.packages_json.Given as goal

-- the members are those of the packages so far
abbrev pub invariant-loop-pair : goal.invariant-loop-pair
invariant-loop-pair l = members_view l.members.entries ≡ packages_data (take l.pair-index l.packages)
