use Rattle.std.proofs.Common.{◌≡◌, ◌++◌, map, drop}
use Rattle.commute_prune.specs.Numbered.{clear_by_marks}
use Rattle.commute_prune.proofs.matrix.clear_row.Given as goal

-- the row so far, and the rest of it
abbrev pub invariant-loop-g : goal.invariant-loop-g
invariant-loop-g l =
    l.row ++ map (clear_by_marks l.writes.items l.folders.items l.parents.items) (drop l.g-index l.all) ≡ map (clear_by_marks l.writes.items l.folders.items l.parents.items) l.all
