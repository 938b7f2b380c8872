-- Proofs by resolution: a log of steps, each a chain of resolutions, and when it is accepted.
use Rattle.std.specs.Prelude.{◌≡◌, ℕ, zero, suc, List, [], ◌∷◌, ◌++◌, slice_get, Option, Some, None, true}
use Rattle.cnf.specs.declared.lit.Lit.{Lit}
use Rattle.cnf.specs.declared.log.Link.{Link}
use Rattle.cnf.specs.declared.log.Step.{Step}
use Rattle.cnf.specs.Literals.{opposite}
use Rattle.cnf.specs.Clauses.{has_lit, resolvent}
use Rattle.cnf.specs.Formulas.{Formula}

-- the clause with this number, of clauses that are numbered from 1
abbrev pub numbered : List (List Lit) → ℕ → Option (List Lit)
numbered clauses zero = None
numbered clauses (suc n) = slice_get clauses n

-- The chain leads from a clause to another: each link names an earlier clause. Its pivot is in the resolvent of the links
-- before, and the pivot's opposite is in the named clause; the next resolvent is that of the two.
abbrev pub Leads : List (List Lit) → List Lit → List Link → List Lit → Type 0
Leads earlier c [] d = c ≡ d
Leads earlier c (link ∷ chain) d = (named : List Lit) × (numbered earlier link.number ≡ Some named)
    × (has_lit c link.pivot ≡ true) × (has_lit named (opposite link.pivot) ≡ true)
    × Leads earlier (resolvent link.pivot c named) chain d

-- the step's chain begins at an earlier clause and leads to just the step's clause
abbrev pub IsRight : List (List Lit) → Step → Type 0
IsRight earlier step = (first : List Lit) × (numbered earlier step.start ≡ Some first) × Leads earlier first step.chain step.clause

-- each step is right over the clauses ahead of it, which are the formula's and those of the earlier steps
abbrev pub AreRight : List (List Lit) → List Step → Type 0
AreRight earlier [] = Unit {0}
AreRight earlier (step ∷ steps) = IsRight earlier step × AreRight (earlier ++ step.clause ∷ []) steps

-- the last of these steps has the empty clause
abbrev pub EndsEmpty : List Step → Type 0
EndsEmpty [] = ⊥
EndsEmpty (step ∷ []) = step.clause ≡ []
EndsEmpty (step ∷ next ∷ steps) = EndsEmpty (next ∷ steps)

-- a log is accepted where it has a step, each step is right, and the last one is the empty clause
pub record IsAccepted (f : Formula) (steps : List Step) : Type 0 where
  pub right : AreRight f.clauses steps
  pub ends : EndsEmpty steps
