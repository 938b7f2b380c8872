-- How the clauses of a formula are kept: the indexes of the literals of all clauses, and where each clause ends.
use Rattle.std.specs.Prelude.{◌≡◌, ℕ, zero, suc, ◌+◌, ◌-◌, ◌*◌, ◌/◌, ◌%◌, ◌^◌, ◌≤◌, ◌==◌, if◌then◌else◌, List, [], ◌∷◌, length, map}
use Rattle.std.specs.List.{slice_range}
use Rattle.cnf.specs.declared.lit.Lit.{Lit}
use Rattle.cnf.specs.Formulas.{Formula, IsFormula}

-- the index of a literal, as MiniSat numbers them; variables are counted from 1
abbrev pub index_of : Lit → ℕ
index_of l = 2 * (l.var - 1) + (if l.positive then 0 else 1)

-- the literal that has an index
abbrev pub lit_of : ℕ → Lit
lit_of index = record { var = index / 2 + 1; positive = index % 2 == 0 }

-- the clauses whose literals have these indexes, the first from a place on, and that end at these places
abbrev pub clauses_from : ℕ → List ℕ → List ℕ → List (List Lit)
clauses_from start literals [] = []
clauses_from start literals (end ∷ ends) = map lit_of (slice_range literals start end) ∷ clauses_from end literals ends

-- the ends rise from the start to the last place
abbrev pub Rise : ℕ → List ℕ → ℕ → Type 0
Rise start [] last = start ≡ last
Rise start (end ∷ ends) last = (start ≤ end) × Rise end ends last

-- the formula that is kept
abbrev pub formula_of : ℕ → List ℕ → List ℕ → Formula
formula_of vars literals ends = record { vars = vars; clauses = clauses_from 0 literals ends }

-- Indexes of literals and ends of clauses that keep a formula of at most 2^31 variables.
pub record IsStored (vars : ℕ) (literals ends : List ℕ) : Type 0 where
  pub small : vars ≤ 2 ^ 31
  pub rise : Rise 0 ends (length literals)
  pub formula : IsFormula (formula_of vars literals ends)

-- where the clause with an index begins
abbrev pub start_of : ℕ → List ℕ → ℕ → ℕ
start_of start ends zero = start
start_of start [] (suc i) = start
start_of start (end ∷ ends) (suc i) = start_of end ends i
