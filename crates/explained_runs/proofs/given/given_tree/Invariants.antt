use Rattle.std.proofs.Common.{take}
use Rattle.given_hosts.specs.Given.{Stand}
use Rattle.explained_runs.specs.GivenTree.{HasOnlyGiven}
use Rattle.explained_runs.proofs.given.given_tree.Given as goal

-- those before this one stand, and nothing but what is given and above it
abbrev pub invariant-loop-p : goal.invariant-loop-p
invariant-loop-p l = record { stand : Stand (take l.p-index l.given) l.tree; only : HasOnlyGiven l.given l.tree }
