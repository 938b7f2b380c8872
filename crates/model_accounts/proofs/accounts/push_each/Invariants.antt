use Rattle.std.proofs.Common.{drop}
use Rattle.std.specs.List.{flat_map}
use Rattle.model_semantics.specs.Names.{group_in}
use Rattle.model_accounts.proofs.MarkLaws.{AreAdded}
use Rattle.model_accounts.proofs.accounts.push_each.Given as goal

abbrev pub invariant-loop-item : goal.invariant-loop-item
invariant-loop-item l = AreAdded (flat_map group_in (drop l.item-index l.items)) (flat_map group_in l.items) l.initial.marks l.marks
