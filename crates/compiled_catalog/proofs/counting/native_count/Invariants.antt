use Rattle.std.proofs.Common.{◌≡◌, ◌≤◌, ◌+◌, not, drop, filter, length}
use Rattle.compiled_catalog.proofs.counting.native_count.Given as goal

-- those so far, with those that are left
abbrev pub invariant-loop-r : goal.invariant-loop-r
invariant-loop-r l = (l.count + length (filter (λ r. not r.is_container) (drop l.r-index l.resources)) ≡ length (filter (λ r. not r.is_container) l.resources)) × (l.count ≤ l.r-index)
