use Rattle.std.proofs.Common.{◌≡◌, take}
use Rattle.cnf.specs.Formulas.{clause_at}
use Rattle.trimmed_proofs.proofs.formula.literals.Given as goal

-- the literals so far
abbrev pub invariant-loop-k : goal.invariant-loop-k
invariant-loop-k l = l.lits.items ≡ take l.k (clause_at l.cnf l.i)
