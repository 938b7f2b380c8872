-- Clauses: finite sets of literals, as lists in order in which each literal stands once.
use Rattle.std.specs.Prelude.{◌≡◌, ℕ, ◌<◌, Bool, false, ◌||◌, nat_lt, if◌then◌else◌, List, [], ◌∷◌, ◌++◌}
use Rattle.std.specs.List.{AllByRecursion, list_any}
use Rattle.cnf.specs.declared.lit.Lit.{Lit}
use Rattle.cnf.specs.Literals.{opposite, lit_place, same_lit, lit_true, HasVariable}

-- whether a literal stands among these
abbrev pub has_lit : List Lit → Lit → Bool
has_lit c l = list_any (same_lit l) c

-- the literals stand in order, so each stands once
abbrev pub IsClause : List Lit → Type 0
IsClause [] = Unit {0}
IsClause (l ∷ c) = AllByRecursion (λ m. lit_place l < lit_place m) c × IsClause c

-- the literals in order, with one more
abbrev pub with_lit : Lit → List Lit → List Lit
with_lit l [] = l ∷ []
with_lit l (m ∷ c) = if nat_lt (lit_place l) (lit_place m) then l ∷ m ∷ c else (if same_lit l m then m ∷ c else m ∷ with_lit l c)

-- the clause of these literals, which come in any order and also repeated
abbrev pub clause_of : List Lit → List Lit
clause_of [] = []
clause_of (l ∷ lits) = with_lit l (clause_of lits)

-- the clause that has just these literals
pub record IsClauseOf (lits c : List Lit) : Type 0 where
  pub ordered : IsClause c
  pub same : (l : Lit) → has_lit c l ≡ has_lit lits l

-- the literals other than this one
abbrev pub without : Lit → List Lit → List Lit
without l [] = []
without l (m ∷ c) = if same_lit l m then without l c else m ∷ without l c

-- The resolvent of two clauses: the first without the pivot, joined with the second without the pivot's opposite.
abbrev pub resolvent : Lit → List Lit → List Lit → List Lit
resolvent pivot c d = clause_of (without pivot c ++ without (opposite pivot) d)

-- a clause is true where one of its literals is
abbrev pub clause_true : (ℕ → Bool) → List Lit → Bool
clause_true v [] = false
clause_true v (l ∷ c) = lit_true v l || clause_true v c

-- the literals have variables from 1 to n
abbrev pub HasVariables : ℕ → List Lit → Type 0
HasVariables n c = AllByRecursion (HasVariable n) c
