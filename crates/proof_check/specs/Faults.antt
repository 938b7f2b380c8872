-- What makes a log fail, and where.
use Rattle.std.specs.Prelude.{◌≡◌, ◌≢◌, ◌⊎◌, ℕ, ◌+◌, List, [], ◌∷◌, ◌++◌, length, Some, None, true, false}
use Rattle.cnf.specs.declared.lit.Lit.{Lit}
use Rattle.cnf.specs.declared.log.Link.{Link}
use Rattle.cnf.specs.declared.log.Step.{Step}
use Rattle.cnf.specs.Literals.{opposite}
use Rattle.cnf.specs.Clauses.{has_lit, resolvent}
use Rattle.cnf.specs.Formulas.{Formula}
use Rattle.cnf.specs.Proofs.{numbered, Leads, IsRight, AreRight}
use Rattle.proof_check.specs.declared.fault.Cause.{Cause}
use Rattle.proof_check.specs.declared.fault.Cause.TheVariants.{NoStep, NoClause, NoPivot, Resolvent, NotEmpty}

-- the step's chain begins at an earlier clause and leads to this one
abbrev pub LeadsTo : List (List Lit) → Step → List Lit → Type 0
LeadsTo earlier step d = (first : List Lit) × (numbered earlier step.start ≡ Some first) × Leads earlier first step.chain d

-- the link leads from a clause to their resolvent
abbrev pub Resolves : List (List Lit) → List Lit → Link → List Lit → Type 0
Resolves earlier c link d = (named : List Lit) × (numbered earlier link.number ≡ Some named)
    × (has_lit c link.pivot ≡ true) × (has_lit named (opposite link.pivot) ≡ true) × (d ≡ resolvent link.pivot c named)

-- the link names no earlier clause; or a pivot is missing
abbrev pub LinkFails : List (List Lit) → List Lit → Link → ℕ → Cause → Type 0
LinkFails earlier c link k cause =
    ((numbered earlier link.number ≡ None) × (cause ≡ NoClause link.number))
    ⊎ ((named : List Lit) × (numbered earlier link.number ≡ Some named)
    × ((has_lit c link.pivot ≡ false) ⊎ (has_lit named (opposite link.pivot) ≡ false)) × (cause ≡ NoPivot k))

-- the first link that fails, of links that are counted from k; or the chain gives another clause
abbrev pub ChainFails : List (List Lit) → List Lit → List Lit → List Link → ℕ → Cause → Type 0
ChainFails earlier wanted c [] k cause = (cause ≡ Resolvent c) × (c ≢ wanted)
ChainFails earlier wanted c (link ∷ chain) k cause = LinkFails earlier c link k cause
    ⊎ ((d : List Lit) × Resolves earlier c link d × ChainFails earlier wanted d chain (k + 1) cause)

-- the step begins at no earlier clause; or its chain fails
abbrev pub StepFails : List (List Lit) → Step → Cause → Type 0
StepFails earlier step cause =
    ((numbered earlier step.start ≡ None) × (cause ≡ NoClause step.start))
    ⊎ ((first : List Lit) × (numbered earlier step.start ≡ Some first) × ChainFails earlier step.clause first step.chain 1 cause)

-- the first step that fails, of steps that are counted from 1
abbrev pub FirstFault : List (List Lit) → List Step → ℕ → Cause → Type 0
FirstFault earlier [] n cause = ⊥
FirstFault earlier (step ∷ steps) n cause =
    ((n ≡ 1) × StepFails earlier step cause)
    ⊎ (IsRight earlier step × ((m : ℕ) × (n ≡ m + 1) × FirstFault (earlier ++ step.clause ∷ []) steps m cause))

-- the last of these steps has a clause that isn't empty
abbrev pub EndsFull : List Step → Type 0
EndsFull [] = ⊥
EndsFull (step ∷ []) = step.clause ≢ []
EndsFull (step ∷ next ∷ steps) = EndsFull (next ∷ steps)

-- why a log isn't accepted: it has no step; or this is its first step that fails; or it ends in a clause that isn't empty
abbrev pub IsFault : Formula → List Step → ℕ → Cause → Type 0
IsFault f steps n cause =
    ((steps ≡ []) × (n ≡ 0) × (cause ≡ NoStep))
    ⊎ (FirstFault f.clauses steps n cause ⊎ (AreRight f.clauses steps × EndsFull steps × (n ≡ length steps) × (cause ≡ NotEmpty)))
