use Rattle.std.proofs.Common.{◌≡◌}
use Rattle.model_semantics.specs.Words.{fronts, kept}
use Rattle.model_packages.proofs.folders.keep_above.Given as goal

-- the fronts so far are kept
abbrev pub invariant-loop-n : goal.invariant-loop-n
invariant-loop-n l = l.set ≡ kept l.initial.set (fronts l.n l.p)
