use Rattle.std.proofs.Common.{◌≡◌, ◌++◌}
use Rattle.tried_trees.proofs.first.add_all.Given as goal

abbrev pub invariant-loop-tree : goal.invariant-loop-tree
invariant-loop-tree l =
    (goal.iterator-loop-tree).can_next l.tree-iterator
    × (goal.iterator-loop-tree).is_finite l.tree-iterator
    × (l.fn.more ≡ l.yielded ++ l.tree-iterator.rest.items)
    × (l.trees ≡ l.initial.trees ++ l.yielded)
