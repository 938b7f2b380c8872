use Rattle.std.proofs.Common.{take}
use Rattle.given_hosts.specs.Given.{Stand}
use Rattle.smaller_witness.proofs.given.all_stand.Given as goal

-- those before this one stand
abbrev pub invariant-loop-p : goal.invariant-loop-p
invariant-loop-p l = Stand (take l.p-index l.given) l.tree
