use Rattle.std.proofs.Common.{◌≡◌, false}
use Rattle.fs_replay.proofs.StandLaws.{AreTold}
use Rattle.fs_replay.proofs.standing.cells_of.Given as goal

-- the cells tell what stands at the places so far
abbrev pub invariant-loop-i : goal.invariant-loop-i
invariant-loop-i l = record { told : AreTold l.table l.tree l.i l.cells.present l.cells.folder l.cells.link l.cells.content; error : l.cells.error ≡ false }
