-- Laws of formulas that define a fresh variable.
use Rattle.std.proofs.Common.{◌≡◌, ℕ, ◌+◌, ◌≤◌, Bool, true, not, ◌||◌, eqb, List, [], ◌∷◌, ◌++◌, refl, sym, ap, ◌∙◌, arith, if◌then◌else◌}
use Rattle.std.specs.List.{AllByRecursion}
use Rattle.std.proofs.lemmas.Bool.{eq-eqb, ne_eqb}
use Rattle.cnf.specs.declared.lit.Lit.{Lit}
use Rattle.cnf.specs.Literals.{lit_true, HasVariable}
use Rattle.cnf.specs.Clauses.{clause_true, clause_of, HasVariables}
use Rattle.cnf.specs.Formulas.{Formula, IsFormula, Satisfies}
use Rattle.cnf.specs.Defining.{Defines, with_clauses}
use Rattle.cnf.proofs.ClauseLaws.{clause_true-clause_of}

-- a valuation with another value at one variable
pub set_value : ℕ → Bool → (ℕ → Bool) → ℕ → Bool
set_value x b v k = if eqb k x then b else v k

-- a valuation that was changed at a variable has the new value there
pub set_value-at : (x : ℕ) (b : Bool) (v : ℕ → Bool) → set_value x b v x ≡ b
unfolding set_value
set_value-at x b v = ap (λ t. if t then b else v x) (eq-eqb x x refl)

-- and the old values elsewhere
pub set_value-other : (x : ℕ) (b : Bool) (v : ℕ → Bool) (k : ℕ) → (k ≡ x → ⊥) → set_value x b v k ≡ v k
unfolding set_value
set_value-other x b v k h = ap (λ t. if t then b else v k) (ne_eqb k x h)

-- what reads variables up to n alone
module _ (u v : ℕ → Bool) (n : ℕ) (same : (k : ℕ) → k ≤ n → u k ≡ v k) where
  -- valuations that agree on the first n variables agree on their literals
  pub lit_true-same : (l : Lit) → HasVariable n l → lit_true u l ≡ lit_true v l
  lit_true-same l h = ap (λ b. if l.positive then b else not b) (same l.var h.1)

  -- and on clauses over them
  pub clause_true-same : (c : List Lit) → HasVariables n c → clause_true u c ≡ clause_true v c
  clause_true-same [] h = refl
  clause_true-same (l ∷ c) h = ap (λ b. b || clause_true u c) (lit_true-same l h.0) ∙ ap (λ b. lit_true v l || b) (clause_true-same c h.1)

  -- and on whether they make all clauses over them true
  pub Satisfies-same : (cs : List (List Lit)) → AllByRecursion (HasVariables n) cs → Satisfies v cs → Satisfies u cs
  Satisfies-same [] h s = tt
  Satisfies-same (c ∷ cs) h s = (clause_true-same c h.0 ∙ s.0, Satisfies-same cs h.1 s.1)

-- one more clause
pub Satisfies-push : (v : ℕ → Bool) (cs : List (List Lit)) (c : List Lit) → Satisfies v cs → clause_true v c ≡ true → Satisfies v (cs ++ clause_of c ∷ [])
Satisfies-push v [] c s t = (clause_true-clause_of v c ∙ t, tt)
Satisfies-push v (d ∷ cs) c s t = (s.0, Satisfies-push v cs c s.1 t)

-- what makes clauses true with one more makes them true
pub Satisfies-front : (v : ℕ → Bool) (cs : List (List Lit)) (c : List Lit) → Satisfies v (cs ++ clause_of c ∷ []) → Satisfies v cs
Satisfies-front v [] c s = tt
Satisfies-front v (d ∷ cs) c s = (s.0, Satisfies-front v cs c s.1)

-- and that one, too
pub Satisfies-last : (v : ℕ → Bool) (cs : List (List Lit)) (c : List Lit) → Satisfies v (cs ++ clause_of c ∷ []) → clause_true v c ≡ true
Satisfies-last v [] c s = sym (clause_true-clause_of v c) ∙ s.0
Satisfies-last v (d ∷ cs) c s = Satisfies-last v cs c s.1

-- ---- many clauses
-- what makes clauses true with more behind them makes them true
pub all_front : (v : ℕ → Bool) (cs more : List (List Lit)) → Satisfies v (with_clauses cs more) → Satisfies v cs
all_front v cs [] s = s
all_front v cs (c ∷ more) s = Satisfies-front v cs c (all_front v (cs ++ clause_of c ∷ []) more s)

-- and those behind them, too
pub all_more : (v : ℕ → Bool) (cs more : List (List Lit)) → Satisfies v (with_clauses cs more) → Satisfies v more
all_more v cs [] s = tt
all_more v cs (c ∷ more) s = (Satisfies-last v cs c (all_front v (cs ++ clause_of c ∷ []) more s), all_more v (cs ++ clause_of c ∷ []) more s)

-- what makes clauses and those behind them true makes all of them true
pub all_both : (v : ℕ → Bool) (cs more : List (List Lit)) → Satisfies v cs → Satisfies v more → Satisfies v (with_clauses cs more)
all_both v cs [] s t = s
all_both v cs (c ∷ more) s t = all_both v (cs ++ clause_of c ∷ []) more (Satisfies-push v cs c s t.0) t.1

-- A fresh variable, and clauses that are true where it has this value, and only there.
module _ (f : Formula) (is : IsFormula f) (more : List (List Lit)) (value : (ℕ → Bool) → Bool)
    (reads : (u v : ℕ → Bool) → ((k : ℕ) → k ≤ f.vars → u k ≡ v k) → value u ≡ value v)
    (says : (v : ℕ → Bool) → Satisfies v more → v (f.vars + 1) ≡ value v)
    (holds : (v : ℕ → Bool) → v (f.vars + 1) ≡ value v → Satisfies v more) where
  -- with one new variable, clauses that hold exactly where it has a value of the old ones define it, and say no more of these
  pub fresh_defines : Defines f (record { vars = f.vars + 1; clauses = with_clauses f.clauses more }) (record { var = f.vars + 1; positive = true }) value
  fresh_defines = record {
    more = omega arith;
    variable = (omega arith, omega arith);
    keeps = λ v s. all_front v f.clauses more s;
    sound = λ v s. says v (all_more v f.clauses more s);
    extends = λ v s.
        let u = set_value (f.vars + 1) (value v) v in
        let same : (k : ℕ) → k ≤ f.vars → u k ≡ v k = λ k h. set_value-other (f.vars + 1) (value v) v k (λ e. omega arith) in (
          u,
          same,
          all_both u f.clauses more (Satisfies-same u v f.vars same f.clauses is.variables s)
              (holds u (set_value-at (f.vars + 1) (value v) v ∙ sym (reads u v same))),
        );
  }
