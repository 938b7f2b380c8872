-- Laws of the clauses that define the value of a gate.
use Rattle.std.proofs.Common.{◌≡◌, ℕ, ◌+◌, Bool, true, false, not, ◌&&◌, ◌||◌, List, [], ◌∷◌, refl, sym, ap, ◌∙◌, subst, if◌then◌else◌}
use Rattle.cnf.specs.declared.lit.Lit.{Lit}
use Rattle.cnf.specs.Literals.{opposite, same_lit, lit_true, HasVariable}
use Rattle.cnf.specs.Formulas.{Formula, IsFormula, Satisfies}
use Rattle.cnf.specs.Defining.{Defines, yes, no, with_clauses, constant_clauses, and_clauses, mux_clauses}
use Rattle.cnf.proofs.ClauseLaws.{lit_true-opposite}
use Rattle.cnf.proofs.Definitions.{fresh_defines, lit_true-same}

-- ---- constants
-- the clause of a constant gives its variable that value
constant_says : (v : ℕ → Bool) (x : ℕ) (b : Bool) → Satisfies v (constant_clauses x b) → v x ≡ b
constant_says v x true s = by (v x) s.0
  where
    by : (y : Bool) → (y || false) ≡ true → y ≡ true
    by true h = refl
    by false h = h
constant_says v x false s = by (v x) s.0
  where
    by : (y : Bool) → (not y || false) ≡ true → y ≡ false
    by true h = sym h
    by false h = refl

-- a variable with that value makes it true
constant_holds : (v : ℕ → Bool) (x : ℕ) (b : Bool) → v x ≡ b → Satisfies v (constant_clauses x b)
constant_holds v x true h = (ap (λ y. y || false) h, tt)
constant_holds v x false h = (ap (λ y. not y || false) h, tt)

-- with the clause of a constant a new variable is defined as that constant
pub constant_defines : (f : Formula) (b : Bool) → IsFormula f → Defines f (record { vars = f.vars + 1; clauses = with_clauses f.clauses (constant_clauses (f.vars + 1) b) }) (yes (f.vars + 1)) (λ v. b)
constant_defines f b is = fresh_defines f is (constant_clauses (f.vars + 1) b) (λ v. b) (λ u v same. refl) (λ v s. constant_says v (f.vars + 1) b s) (λ v h. constant_holds v (f.vars + 1) b h)

-- ---- and
-- the three clauses of a conjunction are true, as truth values of the variable and of the two literals
abbrev AndHolds : Bool → Bool → Bool → Bool → Bool → Type 0
AndHolds x a b not_a not_b = ((not x || (a || false)) ≡ true) × (((not x || (b || false)) ≡ true) × (((x || (not_a || (not_b || false))) ≡ true) × Unit {0}))

-- where they are true the variable is the conjunction
and_is : (x a b : Bool) → AndHolds x a b (not a) (not b) → x ≡ (a && b)
and_is true true true h = refl
and_is true true false h = sym h.1.0
and_is true false b h = sym h.0
and_is false true true h = h.1.1.0
and_is false true false h = refl
and_is false false b h = refl

-- the conjunction makes them true
and_true : (a b : Bool) → AndHolds (a && b) a b (not a) (not b)
and_true true true = (refl, (refl, (refl, tt)))
and_true true false = (refl, (refl, (refl, tt)))
and_true false true = (refl, (refl, (refl, tt)))
and_true false false = (refl, (refl, (refl, tt)))

module _ (v : ℕ → Bool) (x : ℕ) (a b : Lit) where
  -- the clauses of a conjunction give its variable that value
  and_says : Satisfies v (and_clauses x a b) → v x ≡ (lit_true v a && lit_true v b)
  and_says s =
      and_is (v x) (lit_true v a) (lit_true v b)
      (subst (λ n. AndHolds (v x) (lit_true v a) (lit_true v b) n (not (lit_true v b))) (lit_true-opposite v a)
      (subst (λ n. AndHolds (v x) (lit_true v a) (lit_true v b) (lit_true v (opposite a)) n) (lit_true-opposite v b) s))

  -- a variable with that value makes them true
  and_holds : v x ≡ (lit_true v a && lit_true v b) → Satisfies v (and_clauses x a b)
  and_holds h =
      subst (λ n. AndHolds (v x) (lit_true v a) (lit_true v b) (lit_true v (opposite a)) n) (sym (lit_true-opposite v b))
      (subst (λ n. AndHolds (v x) (lit_true v a) (lit_true v b) n (not (lit_true v b))) (sym (lit_true-opposite v a))
      (subst (λ y. AndHolds y (lit_true v a) (lit_true v b) (not (lit_true v a)) (not (lit_true v b))) (sym h) (and_true (lit_true v a) (lit_true v b))))

-- with the clauses of a conjunction a new variable is defined as the conjunction of two literals
pub and_defines : (f : Formula) (a b : Lit) → IsFormula f → HasVariable f.vars a → HasVariable f.vars b
    → Defines f (record { vars = f.vars + 1; clauses = with_clauses f.clauses (and_clauses (f.vars + 1) a b) }) (yes (f.vars + 1)) (λ v. lit_true v a && lit_true v b)
and_defines f a b is ha hb =
    fresh_defines f is (and_clauses (f.vars + 1) a b) (λ v. lit_true v a && lit_true v b)
    (λ u v same. ap (λ y. y && lit_true u b) (lit_true-same u v f.vars same a ha) ∙ ap (λ y. lit_true v a && y) (lit_true-same u v f.vars same b hb))
    (λ v s. and_says v (f.vars + 1) a b s)
    (λ v h. and_holds v (f.vars + 1) a b h)

-- ---- choice
-- what two clauses say once more
abbrev MoreHolds : Bool → Bool → Bool → Bool → Bool → Bool → Type 0
MoreHolds true x a b not_a not_b = Unit {0}
MoreHolds false x a b not_a not_b = ((not x || (a || (b || false))) ≡ true) × (((x || (not_a || (not_b || false))) ≡ true) × Unit {0})

-- the clauses of a choice are true, as truth values of the variable, the condition and the two branches
abbrev MuxHolds : Bool → Bool → Bool → Bool → Bool → Bool → Bool → Bool → Type 0
MuxHolds apart x c a b not_c not_a not_b =
    ((not x || (not_c || (a || false))) ≡ true) × (((not x || (c || (b || false))) ≡ true) × (((x || (not_c || (not_a || false))) ≡ true)
    × (((x || (c || (not_b || false))) ≡ true) × MoreHolds apart x a b not_a not_b)))

-- where they are true the variable is the choice
mux_is : (apart x c a b : Bool) → MuxHolds apart x c a b (not c) (not a) (not b) → x ≡ (if c then a else b)
mux_is apart true true true b h = refl
mux_is apart true true false b h = sym h.0
mux_is apart true false a true h = refl
mux_is apart true false a false h = sym h.1.0
mux_is apart false true true b h = h.1.1.0
mux_is apart false true false b h = refl
mux_is apart false false a true h = h.1.1.1.0
mux_is apart false false a false h = refl

-- the choice makes the two clauses true that say nothing new
more_true : (apart c a b : Bool) → MoreHolds apart (if c then a else b) a b (not a) (not b)
more_true true c a b = tt
more_true false true true b = (refl, (refl, tt))
more_true false true false true = (refl, (refl, tt))
more_true false true false false = (refl, (refl, tt))
more_true false false true true = (refl, (refl, tt))
more_true false false true false = (refl, (refl, tt))
more_true false false false true = (refl, (refl, tt))
more_true false false false false = (refl, (refl, tt))

-- the choice makes all of its clauses true
mux_true : (apart c a b : Bool) → MuxHolds apart (if c then a else b) c a b (not c) (not a) (not b)
mux_true apart true true b = (refl, (refl, (refl, (refl, more_true apart true true b))))
mux_true apart true false b = (refl, (refl, (refl, (refl, more_true apart true false b))))
mux_true apart false a true = (refl, (refl, (refl, (refl, more_true apart false a true))))
mux_true apart false a false = (refl, (refl, (refl, (refl, more_true apart false a false))))

module _ (v : ℕ → Bool) (x : ℕ) (c a b : Lit) where
  -- the last two clauses, where they stand
  more_says : (apart : Bool) → Satisfies v (if apart then [] else (no x ∷ a ∷ b ∷ []) ∷ (yes x ∷ opposite a ∷ opposite b ∷ []) ∷ []) → MoreHolds apart (v x) (lit_true v a) (lit_true v b) (lit_true v (opposite a)) (lit_true v (opposite b))
  more_says true s = tt
  more_says false s = s

  -- the two clauses that say nothing new are true, or are left out
  says_more : (apart : Bool) → MoreHolds apart (v x) (lit_true v a) (lit_true v b) (lit_true v (opposite a)) (lit_true v (opposite b)) → Satisfies v (if apart then [] else (no x ∷ a ∷ b ∷ []) ∷ (yes x ∷ opposite a ∷ opposite b ∷ []) ∷ [])
  says_more true s = tt
  says_more false s = s

  -- whether the two branches are opposite literals
  abbrev apart : Bool
  apart = same_lit a (opposite b)

  -- the clauses of a choice give its variable that value
  mux_says : Satisfies v (mux_clauses x c a b) → v x ≡ (if lit_true v c then lit_true v a else lit_true v b)
  mux_says s =
      mux_is apart (v x) (lit_true v c) (lit_true v a) (lit_true v b)
      (subst (λ n. MuxHolds apart (v x) (lit_true v c) (lit_true v a) (lit_true v b) n (not (lit_true v a)) (not (lit_true v b))) (lit_true-opposite v c)
      (subst (λ n. MuxHolds apart (v x) (lit_true v c) (lit_true v a) (lit_true v b) (lit_true v (opposite c)) n (not (lit_true v b))) (lit_true-opposite v a)
      (subst (λ n. MuxHolds apart (v x) (lit_true v c) (lit_true v a) (lit_true v b) (lit_true v (opposite c)) (lit_true v (opposite a)) n) (lit_true-opposite v b)
      (s.0, (s.1.0, (s.1.1.0, (s.1.1.1.0, more_says apart s.1.1.1.1)))))))

  -- a variable with that value makes them true
  mux_holds : v x ≡ (if lit_true v c then lit_true v a else lit_true v b) → Satisfies v (mux_clauses x c a b)
  mux_holds h =
      let s = subst (λ n. MuxHolds apart (v x) (lit_true v c) (lit_true v a) (lit_true v b) (lit_true v (opposite c)) (lit_true v (opposite a)) n) (sym (lit_true-opposite v b))
      (subst (λ n. MuxHolds apart (v x) (lit_true v c) (lit_true v a) (lit_true v b) (lit_true v (opposite c)) n (not (lit_true v b))) (sym (lit_true-opposite v a))
      (subst (λ n. MuxHolds apart (v x) (lit_true v c) (lit_true v a) (lit_true v b) n (not (lit_true v a)) (not (lit_true v b))) (sym (lit_true-opposite v c))
      (subst (λ y. MuxHolds apart y (lit_true v c) (lit_true v a) (lit_true v b) (not (lit_true v c)) (not (lit_true v a)) (not (lit_true v b))) (sym h)
      (mux_true apart (lit_true v c) (lit_true v a) (lit_true v b))))) in
      (s.0, (s.1.0, (s.1.1.0, (s.1.1.1.0, says_more apart s.1.1.1.1))))

-- with the clauses of a choice a new variable is defined as the choice of two literals
pub mux_defines : (f : Formula) (c a b : Lit) → IsFormula f → HasVariable f.vars c → HasVariable f.vars a → HasVariable f.vars b
    → Defines f (record { vars = f.vars + 1; clauses = with_clauses f.clauses (mux_clauses (f.vars + 1) c a b) }) (yes (f.vars + 1)) (λ v. if lit_true v c then lit_true v a else lit_true v b)
mux_defines f c a b is hc ha hb =
    fresh_defines f is (mux_clauses (f.vars + 1) c a b) (λ v. if lit_true v c then lit_true v a else lit_true v b)
    (λ u v same.
    ap (λ y. if y then lit_true u a else lit_true u b) (lit_true-same u v f.vars same c hc)
    ∙ ap (λ y. if lit_true v c then y else lit_true u b) (lit_true-same u v f.vars same a ha)
    ∙ ap (λ y. if lit_true v c then lit_true v a else y) (lit_true-same u v f.vars same b hb))
    (λ v s. mux_says v (f.vars + 1) c a b s)
    (λ v h. mux_holds v (f.vars + 1) c a b h)

-- the same, of a formula that was made in two steps
pub defined : (f m g : Formula) (n : ℕ) (more : ℕ → List (List Lit)) (value : (ℕ → Bool) → Bool)
    → Defines f (record { vars = f.vars + 1; clauses = with_clauses f.clauses (more (f.vars + 1)) }) (yes (f.vars + 1)) value
    → n ≡ f.vars + 1 → m ≡ record { vars = f.vars + 1; clauses = f.clauses } → g ≡ record { vars = m.vars; clauses = with_clauses m.clauses (more n) }
    → Defines f g (yes n) value
defined f m g n more value d en em eg =
    let whole : g ≡ record { vars = f.vars + 1; clauses = with_clauses f.clauses (more (f.vars + 1)) } =
    eg
    ∙ ap (λ (h : Formula). record { vars = h.vars; clauses = with_clauses h.clauses (more n) }) em
    ∙ ap (λ (k : ℕ). record { vars = f.vars + 1; clauses = with_clauses f.clauses (more k) }) en in
    subst (λ h. Defines f h (yes n) value) (sym whole) (subst (λ k. Defines f (record { vars = f.vars + 1; clauses = with_clauses f.clauses (more (f.vars + 1)) }) (yes k) value) (sym en) d)
