use Rattle.std.proofs.Common.{◌≡◌, ◌++◌}
use Rattle.request_files.specs.Loading.{AreBytesOf}
use Rattle.request_files.proofs.within.all_within.Given as goal

-- the bytes so far
abbrev pub invariant-loop-role : goal.invariant-loop-role
invariant-loop-role l =
    (goal.iterator-loop-role).can_next l.role-iterator ×
    (goal.iterator-loop-role).is_finite l.role-iterator ×
    (l.fn.loads ≡ l.yielded ++ l.role-iterator.rest.items) ×
    AreBytesOf l.yielded l.files
