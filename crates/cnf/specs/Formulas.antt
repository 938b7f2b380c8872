-- Formulas in conjunctive normal form: lists of clauses over the variables from 1 on.
use Rattle.std.specs.Prelude.{◌≡◌, ℕ, ◌-◌, Bool, true, false, List, [], slice_get, slice_index_or, unwrap_or}
use Rattle.std.specs.List.{AllByRecursion}
use Rattle.cnf.specs.declared.lit.Lit.{Lit}
use Rattle.cnf.specs.Clauses.{IsClause, HasVariables, clause_true}

-- how many variables there are, and the clauses
pub record Formula : Type 0 where
  pub vars : ℕ
  pub clauses : List (List Lit)

-- each clause is a clause over these variables
pub record IsFormula (f : Formula) : Type 0 where
  pub clauses : AllByRecursion IsClause f.clauses
  pub variables : AllByRecursion (HasVariables f.vars) f.clauses

-- the valuation makes each clause true
abbrev pub Satisfies : (ℕ → Bool) → List (List Lit) → Type 0
Satisfies v clauses = AllByRecursion (λ c. clause_true v c ≡ true) clauses

-- some valuation makes each clause true
abbrev pub IsSatisfiable : Formula → Type 0
IsSatisfiable f = (v : ℕ → Bool) × Satisfies v f.clauses

-- a model as a list: the truth value of variable k stands at place k - 1
abbrev pub valuation_of : List Bool → ℕ → Bool
valuation_of model k = slice_index_or model (k - 1) false

-- the clause with a number, of clauses that are numbered from 1; the empty one where there is none
abbrev pub clause_at : Formula → ℕ → List Lit
clause_at f i = unwrap_or (slice_get f.clauses (i - 1)) []
