use Rattle.std.proofs.Common.{◌≡◌, drop}
use Rattle.repair.specs.Missing.{first_apart}
use Rattle.repair.proofs.missing.first_apart.Given as goal

abbrev pub invariant-loop-k : goal.invariant-loop-k
invariant-loop-k l = first_apart (drop l.k l.left) (drop l.k l.right) ≡ first_apart l.left l.right
