-- A set of literals over some variables.
use Rattle.std.specs.Prelude.{◌≡◌, ℕ, true, List}
use Rattle.cnf.specs.declared.lit.Lit.{Lit}
use Rattle.cnf.specs.Literals.{HasVariable}
use Rattle.cnf.specs.Clauses.{has_lit, clause_of}

-- how many variables there can be, and the literals
pub record Gathered : Type 0 where
  pub vars : ℕ
  pub lits : List Lit

-- the clause of these literals
abbrev pub gathered : ℕ → List Lit → Gathered
gathered vars keys = record { vars = vars; lits = clause_of keys }

-- each of the literals is over these variables
abbrev pub AreOver : ℕ → List Lit → Type 0
AreOver vars keys = (l : Lit) → has_lit keys l ≡ true → HasVariable vars l
