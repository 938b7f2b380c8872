use Rattle.std.proofs.Common.{◌≡◌}
use Rattle.commute_prune.specs.Pairs.{pairs_of}
use Rattle.commute_prune.specs.Doubtful.{is_doubtful}
use Rattle.commute_prune.proofs.doubtful.pairs_of.Given as goal

-- the rows so far
abbrev pub invariant-loop-a : goal.invariant-loop-a
invariant-loop-a l = l.pairs ≡ pairs_of (is_doubtful l.order l.clear) l.order.count l.a
