-- Clauses ahead of a step, and literals that are put into a set one by one.
use Rattle.std.specs.Prelude.{◌≡◌, Some, ℕ, List, [], ◌∷◌, ◌++◌, map}
use Rattle.cnf.specs.declared.lit.Lit.{Lit}
use Rattle.cnf.specs.declared.log.Step.{Step}
use Rattle.cnf.specs.Clauses.{IsClause, HasVariables, with_lit}
use Rattle.cnf.specs.Proofs.{numbered}
use Rattle.cnf.specs.Formulas.{Formula}

-- the clauses ahead of a step: the formula's, and those of the earlier steps
abbrev pub earlier_of : Formula → List Step → List (List Lit)
earlier_of f steps = f.clauses ++ map (λ s. s.clause) steps

-- a set with these literals put in, in order
abbrev pub joined : List Lit → List Lit → List Lit
joined c [] = c
joined c (l ∷ lits) = joined (with_lit l c) lits

-- these are clauses over the first n variables
abbrev pub AreClean : ℕ → List (List Lit) → Type 0
AreClean n clauses = (k : ℕ) (c : List Lit) → numbered clauses k ≡ Some c → IsClause c × HasVariables n c
