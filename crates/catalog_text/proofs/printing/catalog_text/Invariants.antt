use Rattle.std.proofs.Common.{◌≡◌, ◌++◌, drop}
use Rattle.std.specs.List.{flat_map}
use Rattle.catalog_semantics.specs.Catalogs.{real_plain}
use Rattle.catalog_text.specs.CatalogText.{resource_lines, catalog_text}
use Rattle.catalog_text.proofs.printing.catalog_text.Given as goal

abbrev pub invariant-loop-i : goal.invariant-loop-i
invariant-loop-i l = l.text ++ flat_map resource_lines (real_plain (drop l.i l.catalog.resources)) ≡ catalog_text l.catalog
