use Rattle.std.proofs.Common.{◌≡◌, ◌++◌, drop, option_map}
use Rattle.std.specs.List.{AllByRecursion}
use Rattle.serde_json.specs.View.{items_view}
use Rattle.fs_semantics.specs.FileTree.{IsSegment}
use Rattle.pkg_listing.specs.Reading.{folders_of}
use Rattle.pkg_listing.proofs.reading.folders_of.Given as goal

-- what was read, with what is still to be read
abbrev pub invariant-loop-item : goal.invariant-loop-item
invariant-loop-item l = (option_map (λ more. l.folders ++ more) (folders_of (items_view (drop l.item-index l.items))) ≡ folders_of (items_view l.items)) × AllByRecursion (AllByRecursion IsSegment) l.folders
