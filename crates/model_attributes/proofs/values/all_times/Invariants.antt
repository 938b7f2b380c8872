use Rattle.std.proofs.Common.{◌≡◌, drop}
use Rattle.std.specs.List.{list_all}
use Rattle.model_semantics.specs.Attributes.{is_text_or_number}
use Rattle.model_attributes.proofs.values.all_times.Given as goal

abbrev pub invariant-loop-item : goal.invariant-loop-item
invariant-loop-item l = list_all is_text_or_number (drop l.item-index l.items) ≡ list_all is_text_or_number l.items
