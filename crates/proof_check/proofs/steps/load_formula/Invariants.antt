use Rattle.std.proofs.Common.{◌≡◌, take}
use Rattle.cnf.specs.Formulas.{clause_at}
use Rattle.proof_check.proofs.steps.load_formula.Given as goal

abbrev pub invariant-loop-k : goal.invariant-loop-k
invariant-loop-k l = l.into.items ≡ take l.k (clause_at l.cnf l.n)
