use Rattle.std.proofs.Common.{◌≡◌, ◌++◌, take}
use Rattle.given_verdict.proofs.second.push_all.Given as goal

abbrev pub invariant-loop-k : goal.invariant-loop-k
invariant-loop-k l = l.list ≡ l.initial.list ++ take l.k-index l.more
