use Rattle.std.proofs.Common.{◌≡◌, ◌+◌}
use Rattle.fs_semantics.specs.FileTree.{Path}
use Rattle.size_limits.specs.Weights.{child_count, capped, count_in}
use Rattle.size_limits.proofs.counts.children_of.Given as goal

-- the children so far, and those among the paths to come
abbrev pub invariant-loop-p : goal.invariant-loop-p
invariant-loop-p l = (q : Path) → capped (count_in l.counts q + child_count l.p-iterator q) ≡ capped (child_count l.paths.keys q)
