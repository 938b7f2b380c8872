use Rattle.std.proofs.Common.{◌<◌, ◌↔◌, drop}
use Rattle.std.specs.List.{AllByRecursion}
use Rattle.fs_replay.proofs.runs.are_below.Given as goal

-- all are below exactly where those that are left are
abbrev pub invariant-loop-i : goal.invariant-loop-i
invariant-loop-i l = AllByRecursion (λ i. i < l.n) (drop l.i-index l.order) ↔ AllByRecursion (λ i. i < l.n) l.order
