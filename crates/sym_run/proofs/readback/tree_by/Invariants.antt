use Rattle.fs_semantics.specs.FileTree.{Tree}
use Rattle.fs_interpreter.specs.Standing.{Stands}
use Rattle.fs_replay.proofs.StandLaws.{UpTo}
use Rattle.sym_run.specs.Wires.{told_state}
use Rattle.sym_run.proofs.readback.tree_by.Given as goal

-- the tree has what the cells tell of the places so far
abbrev pub invariant-loop-i : goal.invariant-loop-i
invariant-loop-i l = (t : Tree) → Stands l.table (told_state l.values l.cells) t → UpTo l.table.paths l.i l.tree t
