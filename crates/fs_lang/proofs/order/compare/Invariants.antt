use Rattle.std.proofs.Common.{◌≡◌, length}
use Rattle.fs_semantics.specs.FileTree.{path_cmp}
use Rattle.fs_lang.proofs.order.compare.Given as goal

-- what is left compares as the whole does
abbrev pub invariant-loop-s : goal.invariant-loop-s
invariant-loop-s l = path_cmp l.left l.right ≡ path_cmp l.p l.q

abbrev pub decreases-loop-s : goal.decreases-loop-s
decreases-loop-s l = length l.left
