use Rattle.std.proofs.Common.{◌≡◌, not, ◌&&◌, false, ◌++◌, drop, get_or}
use Rattle.commute_prune.specs.Reduced.{unsure}
use Rattle.commute_prune.proofs.sure.unsure.Given as goal

-- the rest so far, and that of the numbers to come
abbrev pub invariant-loop-n : goal.invariant-loop-n
invariant-loop-n l =
    l.rest.items ++ unsure (λ n. get_or l.left n false && not (get_or l.written n false)) (drop l.n-index l.ns) ≡ unsure (λ n. get_or l.left n false && not (get_or l.written n false)) l.ns
