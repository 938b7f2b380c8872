use Rattle.std.proofs.Common.{◌≡◌, ◌++◌}
use Rattle.workload.specs.Workload.{groups}
use Rattle.workload.proofs.manifest.push_groups.Given as goal

-- what stood before, and the groups so far
abbrev pub invariant-loop-i : goal.invariant-loop-i
invariant-loop-i l = l.into ≡ l.fn.into ++ groups l.i
