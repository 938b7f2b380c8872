use Rattle.std.proofs.Common.{◌≡◌, ◌-◌, ◌++◌}
use Rattle.fs_semantics.specs.Orders.{up_from}
use Rattle.commute_prune.proofs.settling.up_to.Given as goal

-- the numbers so far, and the others
abbrev pub invariant-loop-k : goal.invariant-loop-k
invariant-loop-k l = l.ks ++ up_from l.k (l.n - l.k) ≡ up_from 0 l.n
