use Rattle.std.proofs.Common.{take}
use Rattle.std.specs.List.{AllByRecursion}
use Rattle.cnf.specs.Literals.{HasVariable}
use Rattle.determinism.proofs.joining.fit.Given as goal

-- those so far are
abbrev pub invariant-loop-lit : goal.invariant-loop-lit
invariant-loop-lit l = AllByRecursion (HasVariable l.vars) (take l.lit-index l.lits)
