use Rattle.std.proofs.Common.{◌≡◌, ◌<◌, ℕ, Some, slice_get}
use Rattle.std.specs.List.{AllByRecursion}
use Rattle.fs_semantics.specs.FileTree.{Path, IsSegment}
use Rattle.sym_run.proofs.trees.paths_are_proper.Given as goal

abbrev pub invariant-loop-i : goal.invariant-loop-i
invariant-loop-i l = (k : ℕ) (p : Path) → k < l.i → slice_get l.table.paths k ≡ Some p → AllByRecursion IsSegment p
