use Rattle.std.proofs.Common.{◌≡◌, ◌++◌}
use Rattle.pp_declared_catalog.proofs.relating.relate_all.Given as goal

abbrev pub invariant-loop-r : goal.invariant-loop-r
invariant-loop-r l =
    (goal.iterator-loop-r).can_next l.r-iterator
    × (goal.iterator-loop-r).is_finite l.r-iterator
    × (l.fn.relations ≡ l.yielded ++ l.r-iterator.rest.items)
    × (l.catalog ≡ record l.initial.catalog { relations = l.initial.catalog.relations ++ l.yielded })
