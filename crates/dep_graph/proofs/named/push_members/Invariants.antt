use Rattle.std.proofs.Common.{◌≡◌, ◌++◌, drop}
use Rattle.dep_graph.specs.Named.{targets_of_members}
use Rattle.dep_graph.proofs.named.push_members.Given as goal

abbrev pub invariant-loop-item : goal.invariant-loop-item
invariant-loop-item l = l.targets ++ targets_of_members l.catalog l.plain l.kind (drop l.item-index l.items) ≡ l.initial.targets ++ targets_of_members l.catalog l.plain l.kind l.items
