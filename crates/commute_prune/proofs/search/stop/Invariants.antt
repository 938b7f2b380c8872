use Rattle.std.proofs.Common.{◌≡◌, ℕ, ◌<◌, ◌≤◌, false}
use Rattle.commute_prune.specs.Steps.{lets}
use Rattle.commute_prune.specs.Search.{blocks}
use Rattle.commute_prune.proofs.search.stop.Given as goal

-- none so far stops it
abbrev pub invariant-loop-j : goal.invariant-loop-j
invariant-loop-j l = (i : ℕ) → l.from ≤ i → i < l.j → blocks (lets l.end l.order l.clear) l.stays l.k i ≡ false
