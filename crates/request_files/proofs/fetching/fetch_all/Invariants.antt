use Rattle.std.proofs.Common.{◌≡◌, ◌++◌}
use Rattle.request_files.specs.Loading.{AreLoads}
use Rattle.request_files.proofs.fetching.fetch_all.Given as goal

-- what was fetched so far, and that no fetch has failed
abbrev pub invariant-loop-role : goal.invariant-loop-role
invariant-loop-role g l =
    (goal.iterator-loop-role g).can_next l.role-iterator ×
    (goal.iterator-loop-role g).is_finite l.role-iterator ×
    (l.fn.names ≡ l.yielded ++ l.role-iterator.rest.items) ×
    AreLoads (g.S.Shelf.holds l.fn.shelf) l.fn.input l.yielded l.loads ×
    (g.S.Shelf.holds l.shelf ≡ g.S.Shelf.holds l.fn.shelf) ×
    (g.S.Shelf.faults l.shelf ≡ g.S.Shelf.faults l.fn.shelf)
