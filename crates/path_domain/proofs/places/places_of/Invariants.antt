use Rattle.std.proofs.Common.{◌≡◌, ◌++◌, drop}
use Rattle.path_domain.specs.Gathered.{members}
use Rattle.path_domain.specs.Laid.{places_from}
use Rattle.path_domain.proofs.places.places_of.Given as goal

-- the places so far and those of the paths to come are all
abbrev pub invariant-loop-i : goal.invariant-loop-i
invariant-loop-i l = l.places ++ places_from l.i (members l.set) (drop l.i l.table.paths) ≡ places_from 0 (members l.set) l.table.paths
