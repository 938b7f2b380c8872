use Rattle.std.proofs.Common.{◌≡◌, ◌++◌, map, take, get_or}
use Rattle.kept_graph.proofs.completing.push_numbers.Given as goal

abbrev pub invariant-loop-i : goal.invariant-loop-i
invariant-loop-i l = l.list ≡ l.initial.list ++ map (λ i. get_or l.kept i 0) (take l.i-index l.places)
