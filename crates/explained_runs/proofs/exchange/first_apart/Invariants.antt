use Rattle.std.proofs.Common.{◌≡◌, drop}
use Rattle.explained_runs.specs.Steps.{first_apart}
use Rattle.explained_runs.proofs.exchange.first_apart.Given as goal

-- what is left of both differs where they do
abbrev pub invariant-loop-i : goal.invariant-loop-i
invariant-loop-i l = first_apart (drop l.i-index l.left) l.rest ≡ first_apart l.left l.right
