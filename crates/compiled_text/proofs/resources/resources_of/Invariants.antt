use Rattle.std.proofs.Common.{◌≡◌, ◌++◌, drop, option_map}
use Rattle.std.specs.List.{AllByRecursion}
use Rattle.serde_json.specs.View.{items_view}
use Rattle.compiled_text.specs.Compiled.{IsProperResource}
use Rattle.compiled_text.specs.Reading.{resources_of}
use Rattle.compiled_text.proofs.resources.resources_of.Given as goal

-- what was read, with what is still to be read
abbrev pub invariant-loop-item : goal.invariant-loop-item
invariant-loop-item l = (option_map (λ more. l.resources ++ more) (resources_of (items_view (drop l.item-index l.items))) ≡ resources_of (items_view l.items)) × AllByRecursion IsProperResource l.resources
