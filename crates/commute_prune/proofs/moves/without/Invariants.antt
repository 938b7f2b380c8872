use Rattle.std.proofs.Common.{◌≡◌, ◌++◌, drop}
use Rattle.sure_folders.specs.Pruning.{without}
use Rattle.commute_prune.proofs.moves.without.Given as goal

-- those so far, and what is left of the others
abbrev pub invariant-loop-j : goal.invariant-loop-j
invariant-loop-j l = l.left ++ without l.k (drop l.j-index l.kept) ≡ without l.k l.kept
