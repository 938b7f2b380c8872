use Rattle.explained_runs.specs.GivenTree.{HasOnlyFolders, IsGrown}
use Rattle.explained_runs.proofs.given.add_down.Given as goal

-- the folders stand down to here, and nothing else but folders does
abbrev pub invariant-loop-n : goal.invariant-loop-n
invariant-loop-n l = record { grown : IsGrown l.n l.p l.initial.tree l.tree; folders : HasOnlyFolders l.tree }
