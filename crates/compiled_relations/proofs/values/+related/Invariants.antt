use Rattle.std.proofs.Common.{◌≡◌, drop}
use Rattle.compiled_relations.specs.Lists.{related_to_all}
use Rattle.compiled_relations.proofs.ListLaws.{behind}
use Rattle.compiled_relations.proofs.values.+related.Given as goal

-- the values so far, with those that are left
abbrev pub invariant-related_to_all-loop-item : goal.invariant-related_to_all-loop-item
invariant-related_to_all-loop-item l = behind l.values (related_to_all l.index l.r (drop l.item-index l.items)) ≡ related_to_all l.index l.r l.items
