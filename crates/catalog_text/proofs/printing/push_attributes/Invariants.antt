use Rattle.std.proofs.Common.{◌≡◌, ◌++◌, drop}
use Rattle.std.specs.List.{flat_map}
use Rattle.catalog_text.specs.CatalogText.{attribute_line}
use Rattle.catalog_text.proofs.printing.push_attributes.Given as goal

abbrev pub invariant-loop-pair : goal.invariant-loop-pair
invariant-loop-pair l = l.into ++ flat_map attribute_line (drop l.pair-index l.attributes) ≡ l.initial.into ++ flat_map attribute_line l.attributes
