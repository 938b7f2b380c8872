use Rattle.std.proofs.Common.{◌≡◌, ◌<◌, ℕ, List, Some, slice_get}
use Rattle.fs_semantics.specs.FileTree.{IsBytes}
use Rattle.sym_run.proofs.trees.contents_are_bytes.Given as goal

abbrev pub invariant-loop-i : goal.invariant-loop-i
invariant-loop-i l = (k : ℕ) (c : List ℕ) → k < l.i → slice_get l.table.contents k ≡ Some c → IsBytes c
