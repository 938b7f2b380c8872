use Rattle.std.proofs.Common.{◌≡◌, take, map}
use Rattle.cnf.specs.Store.{index_of}
use Rattle.cnf.specs.Formulas.{clause_at}
use Rattle.sat_solver.proofs.load.literals_of.Given as goal

abbrev pub invariant-lits : goal.invariant-lits
invariant-lits l = l.literals.items ≡ map index_of (take l.k (clause_at l.cnf l.n))
