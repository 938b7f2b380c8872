use Rattle.std.proofs.Common.{◌≡◌}
use Rattle.fs_semantics.specs.Orders.{up_from}
use Rattle.failure_search.proofs.steps.numbers.Given as goal

-- the numbers so far
abbrev pub invariant-loop-i : goal.invariant-loop-i
invariant-loop-i l = l.order ≡ up_from 0 l.i
