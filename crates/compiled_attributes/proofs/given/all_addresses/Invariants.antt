use Rattle.std.proofs.Common.{◌≡◌, drop}
use Rattle.std.specs.List.{list_all}
use Rattle.pp_value.specs.Values.{on_text}
use Rattle.model_semantics.specs.Attributes.{is_address}
use Rattle.compiled_attributes.proofs.given.all_addresses.Given as goal

abbrev pub invariant-loop-item : goal.invariant-loop-item
invariant-loop-item l = list_all (on_text is_address) (drop l.item-index l.items) ≡ list_all (on_text is_address) l.items
