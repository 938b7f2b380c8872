use Rattle.fs_semantics.specs.FileTree.{Tree}
use Rattle.fs_interpreter.specs.Standing.{Stands}
use Rattle.fs_replay.specs.Told.{plain_state}
use Rattle.fs_replay.proofs.StandLaws.{UpTo}
use Rattle.fs_replay.proofs.standing.tree_of.Given as goal

-- the tree has what the cells tell of the places so far
abbrev pub invariant-loop-i : goal.invariant-loop-i
invariant-loop-i l = (t : Tree) → Stands l.table (plain_state l.cells) t → UpTo l.table.paths l.i l.tree t
