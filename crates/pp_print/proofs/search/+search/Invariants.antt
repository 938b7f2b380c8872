use Rattle.std.proofs.Common.{◌≡◌, ◌++◌, ◌+◌, ◌*◌, take}
use Rattle.std.specs.List.{flat_map}
use Rattle.pp_print.specs.Words.{keyword}
use Rattle.pp_print.specs.Statements.{sought, sought_at}
use Rattle.pp_print.proofs.search.+search.Given as goal

abbrev pub invariant-searches-loop-s : goal.invariant-searches-loop-s
invariant-searches-loop-s l = l.words ≡ l.initial.words ++ flat_map (λ s. keyword l.between ++ sought_at l.least (sought s)) (take l.s-index l.more)

abbrev pub decreases-search : goal.decreases-search
decreases-search l = 8 * goal.size-search l + 0

abbrev pub decreases-enclosed : goal.decreases-enclosed
decreases-enclosed l = 8 * goal.size-enclosed l + 1

abbrev pub decreases-sought_at : goal.decreases-sought_at
decreases-sought_at l = 8 * goal.size-sought_at l + 2

abbrev pub decreases-searches : goal.decreases-searches
decreases-searches l = 8 * goal.size-searches l + 3
