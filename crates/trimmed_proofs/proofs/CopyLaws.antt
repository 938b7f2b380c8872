-- Laws of what is written once more.
use Rattle.std.proofs.Common.{◌≡◌, ℕ, zero, suc, ◌+◌, ◌-◌, ◌<◌, ◌≤◌, List, [], ◌∷◌, ◌++◌, length, get_or, take, All, sym, ap, ◌∙◌, subst, arith}
use Rattle.std.specs.List.{AllByRecursion}
use Rattle.std.proofs.lemmas.List.{take_more}
use Rattle.std.proofs.lemmas.List.Elements.{All-from_recursion}
use Rattle.std.proofs.lemmas.Option.{unwrap_or-slice_get}
use Rattle.cnf.specs.declared.lit.Lit.{Lit}
use Rattle.cnf.specs.Literals.{HasVariable}
use Rattle.cnf.specs.Clauses.{IsClause, HasVariables, clause_of}
use Rattle.cnf.specs.Formulas.{Formula, IsFormula, clause_at}
use Rattle.cnf.proofs.ClauseLaws.{one_clause, IsClause-clause_of, has_lit-clause_of}

-- the clause of the literals of a clause is that clause
pub clause_again : (c : List Lit) → IsClause c → clause_of c ≡ c
clause_again c h = one_clause (clause_of c) c (IsClause-clause_of c) h (λ x. has_lit-clause_of c x)

-- what holds of all of a list holds of each of them
all_here : {X : Type 0} (P : X → Type 0) (xs : List X) (k : ℕ) (d : X) → AllByRecursion P xs → k < length xs → P (get_or xs k d)
all_here P [] k d h low = absurd (omega arith)
all_here P (x ∷ xs) zero d h low = h.0
all_here P (x ∷ xs) (suc k) d h low = all_here P xs k d h.1 (omega arith)

module _ (f : Formula) (is : IsFormula f) (i : ℕ) (low : 1 ≤ i) (high : i ≤ length f.clauses) where
  -- a clause is looked up
  clause_is : clause_at f i ≡ get_or f.clauses (i - 1) []
  clause_is = unwrap_or-slice_get f.clauses (i - 1) []

  -- a clause of a formula is one
  pub at_clause : IsClause (clause_at f i)
  at_clause = subst IsClause (sym clause_is) (all_here IsClause f.clauses (i - 1) [] is.clauses (omega arith))

  -- over its variables
  pub at_variables : (n : ℕ) → n ≡ f.vars → (lits : List Lit) → lits ≡ clause_at f i → All (HasVariable n) lits
  at_variables n same lits at =
      All-from_recursion (HasVariable n) lits
      (subst (HasVariables n) (sym (at ∙ clause_is)) (subst (λ v. HasVariables v (get_or f.clauses (i - 1) [])) (sym same) (all_here (HasVariables f.vars) f.clauses (i - 1) [] is.variables (omega arith))))

-- the clauses up to one and that one
pub clauses_more : (f : Formula) (i : ℕ) → i < length f.clauses → take (i + 1) f.clauses ≡ take i f.clauses ++ clause_at f (i + 1) ∷ []
clauses_more f i h =
    take_more f.clauses i [] h
    ∙ ap (λ c. take i f.clauses ++ c ∷ []) (ap (λ k. get_or f.clauses k []) (let a : i ≡ i + 1 - 1 = omega arith in a) ∙ sym (unwrap_or-slice_get f.clauses (i + 1 - 1) []))

-- one clause more of a formula
pub copied_clause : (f g h : Formula) (i : ℕ) (lits : List Lit) → IsFormula f → 1 ≤ i → i ≤ length f.clauses → lits ≡ clause_at f i → g.vars ≡ f.vars
    → h ≡ record { vars = g.vars; clauses = g.clauses ++ clause_of lits ∷ [] } → h ≡ record { vars = f.vars; clauses = g.clauses ++ clause_at f i ∷ [] }
copied_clause f g h i lits is low high at same made =
    made ∙ (λ k. record { vars = same k; clauses = g.clauses ++ (ap clause_of at ∙ clause_again (clause_at f i) (at_clause f is i low high)) k ∷ [] })

-- the clauses up to the next one
pub copy_more : (f g h : Formula) (i : ℕ) → i < length f.clauses → g ≡ record { vars = f.vars; clauses = take i f.clauses }
    → h ≡ record { vars = f.vars; clauses = g.clauses ++ clause_at f (i + 1) ∷ [] } → h ≡ record { vars = f.vars; clauses = take (i + 1) f.clauses }
copy_more f g h i low was made =
    made ∙ (λ k. record { vars = f.vars; clauses = (ap (λ (x : Formula). x.clauses ++ clause_at f (i + 1) ∷ []) was ∙ sym (clauses_more f i low)) k })
