use Rattle.std.proofs.Common.{◌≡◌, ◌++◌}
use Rattle.workload.specs.Workload.{listed_packages}
use Rattle.workload.proofs.listing.push_packages.Given as goal

-- what stood before, and the packages so far
abbrev pub invariant-loop-i : goal.invariant-loop-i
invariant-loop-i l = l.into ≡ l.fn.into ++ listed_packages l.i
