use Rattle.std.proofs.Common.{◌≡◌, drop}
use Rattle.pp_declared_values.specs.Found.{references_in_all}
use Rattle.pp_declared_values.proofs.Steps.{found_behind}
use Rattle.pp_declared_values.proofs.references.+references.Given as goal

abbrev pub invariant-push_all-loop-item : goal.invariant-push_all-loop-item
invariant-push_all-loop-item l = found_behind l.into (references_in_all (drop l.item-index l.items)) ≡ found_behind l.initial.into (references_in_all l.items)
