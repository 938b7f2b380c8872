use Rattle.given_text.proofs.FolderLaws.{Climbs}
use Rattle.given_text.proofs.folders.add_fronts.Given as goal

abbrev pub invariant-loop-n : goal.invariant-loop-n
invariant-loop-n l = Climbs l.p l.n l.initial.tree l.tree
