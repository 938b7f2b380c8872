use Rattle.std.proofs.Common.{◌≡◌, drop}
use Rattle.commute_prune.specs.Numbers.{any_marked}
use Rattle.commute_prune.proofs.marks.any_marked.Given as goal

-- none of those so far is
abbrev pub invariant-loop-n : goal.invariant-loop-n
invariant-loop-n l = any_marked l.marks l.ns ≡ any_marked l.marks (drop l.n-index l.ns)
