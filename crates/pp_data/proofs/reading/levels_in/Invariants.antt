use Rattle.std.proofs.Common.{◌≡◌, ◌++◌, drop, option_map}
use Rattle.serde_json.specs.View.{items_view}
use Rattle.std.specs.List.{AllByRecursion}
use Rattle.pp_data.specs.Lookup.{IsProperLevel}
use Rattle.pp_data.specs.Reading.{levels_in}
use Rattle.pp_data.proofs.reading.levels_in.Given as goal

abbrev pub invariant-loop-item : goal.invariant-loop-item
invariant-loop-item l = (option_map (λ more. l.levels ++ more) (levels_in (items_view (drop l.item-index l.item-items))) ≡ levels_in (items_view l.item-items)) × AllByRecursion IsProperLevel l.levels
