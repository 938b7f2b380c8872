use Rattle.std.proofs.Common.{◌≡◌, ◌++◌}
use Rattle.commute_prune.specs.Pairs.{row_of}
use Rattle.commute_prune.specs.Doubtful.{is_doubtful}
use Rattle.commute_prune.proofs.doubtful.push_row.Given as goal

-- the row so far
abbrev pub invariant-loop-b : goal.invariant-loop-b
invariant-loop-b l = l.pairs ≡ l.initial.pairs ++ row_of (is_doubtful l.order l.clear) l.a l.b
