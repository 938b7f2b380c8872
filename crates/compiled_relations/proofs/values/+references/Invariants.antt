use Rattle.std.proofs.Common.{◌≡◌, drop}
use Rattle.compiled_relations.specs.Lists.{are_all_references}
use Rattle.compiled_relations.proofs.values.+references.Given as goal

-- all are, where those that are left are
abbrev pub invariant-are_all_references-loop-item : goal.invariant-are_all_references-loop-item
invariant-are_all_references-loop-item l = are_all_references (drop l.item-index l.items) ≡ are_all_references l.items
