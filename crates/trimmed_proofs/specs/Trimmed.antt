-- When a refutation has only steps that its empty clause rests on.
use Rattle.std.specs.Prelude.{◌≡◌, ◌||◌, ◌==◌, ◌⊎◌, ℕ, ◌+◌, Bool, true, List, [], ◌∷◌, length, map}
use Rattle.std.specs.List.{list_any}
use Rattle.cnf.specs.declared.lit.Lit.{Lit}
use Rattle.cnf.specs.declared.log.Step.{Step}
use Rattle.proof_check.specs.Refuted.{Refutation}

-- whether a step names the clause with this number: its chain begins with it, or a link resolves with it
abbrev pub names : ℕ → Step → Bool
names k step = (step.start == k) || list_any (λ link. link.number == k) step.chain

-- each of these steps behind n clauses, but the last one, is named by a later one
abbrev pub EachIsUsed : ℕ → List Step → Type 0
EachIsUsed n [] = Unit {0}
EachIsUsed n (step ∷ steps) = ((steps ≡ []) ⊎ (list_any (names (n + 1)) steps ≡ true)) × EachIsUsed (n + 1) steps

-- each step but the last one, which has the empty clause, is named by a later one: so the empty clause rests on all of them
abbrev pub IsTrimmed : Refutation → Type 0
IsTrimmed p = EachIsUsed (length p.formula.clauses) p.steps

-- of these clauses some are left, in the same order
abbrev pub AreOf : List (List Lit) → List (List Lit) → Type 0
AreOf [] left = left ≡ []
AreOf (c ∷ clauses) left = ((rest : List (List Lit)) × (left ≡ c ∷ rest) × AreOf clauses rest) ⊎ AreOf clauses left

-- the clauses of steps
abbrev pub step_clauses : List Step → List (List Lit)
step_clauses steps = map (λ s. s.clause) steps

-- of a refutation some steps are left, in the same order: the formula is the same, and what is left is used
pub record IsTrimmedOf (p left : Refutation) : Type 0 where
  pub formula : left.formula ≡ p.formula
  pub steps : AreOf (step_clauses p.steps) (step_clauses left.steps)
  pub used : IsTrimmed left
