use Rattle.std.proofs.Common.{◌≡◌, ◌++◌, take}
use Rattle.repair.proofs.leaving.push_all.Given as goal

abbrev pub invariant-loop-arrow : goal.invariant-loop-arrow
invariant-loop-arrow l = l.list ≡ l.initial.list ++ take l.arrow-index l.more
