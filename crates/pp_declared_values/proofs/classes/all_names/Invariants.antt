use Rattle.std.proofs.Common.{◌≡◌, drop}
use Rattle.catalog_semantics.specs.Functions.{all_names}
use Rattle.pp_declared_values.proofs.Steps.{found_behind}
use Rattle.pp_declared_values.proofs.classes.all_names.Given as goal

abbrev pub invariant-loop-item : goal.invariant-loop-item
invariant-loop-item l = found_behind l.names (all_names (drop l.item-index l.items)) ≡ all_names l.items
