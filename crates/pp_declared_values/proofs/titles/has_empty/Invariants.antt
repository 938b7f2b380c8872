use Rattle.std.proofs.Common.{◌≡◌, drop}
use Rattle.std.specs.List.{list_any}
use Rattle.catalog_semantics.specs.Attributes.{is_empty_text}
use Rattle.pp_declared_values.proofs.titles.has_empty.Given as goal

abbrev pub invariant-loop-title : goal.invariant-loop-title
invariant-loop-title l = list_any is_empty_text (drop l.title-index l.titles) ≡ list_any is_empty_text l.titles
