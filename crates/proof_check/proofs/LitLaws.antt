-- Laws of sets of literals.
use Rattle.std.proofs.Common.{◌≡◌, ◌<◌, Bool, true, false, true≢false, not, ◌&&◌, ◌||◌, cond, List, [], ◌∷◌, ◌++◌, filter, refl, sym, ap, ◌∙◌, subst, if◌then◌else◌, ℕ, inl, inr}
use Rattle.std.specs.List.{AllByRecursion, list_any}
use Rattle.std.proofs.lemmas.Bool.{cases_Bool}
use Rattle.cnf.specs.declared.lit.Lit.{Lit}
use Rattle.cnf.specs.Literals.{same_lit, lit_place, HasVariable}
use Rattle.cnf.specs.Clauses.{has_lit, IsClause, with_lit, clause_of, without, HasVariables}
use Rattle.cnf.proofs.ClauseLaws.{same_truths, same_is, same_self, one_clause, IsClause-with_lit, IsClause-clause_of, has_lit-with_lit, has_lit-clause_of}
use Rattle.proof_check.specs.LitSets.{AreOver}

-- ---- what stands in lists of literals
-- a literal stands in two lists joined exactly where it stands in one of them
pub has_lit-append : (c d : List Lit) (x : Lit) → has_lit (c ++ d) x ≡ (has_lit c x || has_lit d x)
has_lit-append [] d x = refl
has_lit-append (l ∷ c) d x = ap (λ b. same_lit x l || b) (has_lit-append c d x) ∙ assoc (same_lit x l) (has_lit c x) (has_lit d x)
  where
    assoc : (a b e : Bool) → (a || (b || e)) ≡ ((a || b) || e)
    assoc true b e = refl
    assoc false b e = refl

-- a test that tells one literal from another
module _ (p : Lit → Bool) where
  -- a literal stands among those that pass a test exactly where it stands there and passes
  pub has_lit-filter : (c : List Lit) (x : Lit) → has_lit (filter p c) x ≡ (p x && has_lit c x)
  has_lit-filter [] x = sym (none (p x))
    where
      none : (b : Bool) → (b && false) ≡ false
      none true = refl
      none false = refl
  has_lit-filter (l ∷ c) x = elim (cases_Bool (p l)) [
    | inl on ↦
        ap (λ b. has_lit (cond b (l ∷ filter p c) (filter p c)) x) on
        ∙ ap (λ b. same_lit x l || b) (has_lit-filter c x)
        ∙ kept (same_lit x l) (p x) (has_lit c x) (λ s. ap p (same_is x l s) ∙ on)
    | inr off ↦
        ap (λ b. has_lit (cond b (l ∷ filter p c) (filter p c)) x) off
        ∙ has_lit-filter c x
        ∙ dropped (same_lit x l) (p x) (has_lit c x) (λ s. ap p (same_is x l s) ∙ off)
  ]
    where
      kept : (s q h : Bool) → (s ≡ true → q ≡ true) → (s || (q && h)) ≡ (q && (s || h))
      kept true true h f = refl
      kept true false h f = absurd (true≢false (sym (f refl)))
      kept false q h f = refl

      dropped : (s q h : Bool) → (s ≡ true → q ≡ false) → (q && h) ≡ (q && (s || h))
      dropped true true h f = absurd (true≢false (f refl))
      dropped true false h f = refl
      dropped false q h f = refl

-- taking a literal out is filtering by the others
pub without-filter : (l : Lit) (c : List Lit) → without l c ≡ filter (λ m. not (same_lit l m)) c
without-filter l [] = refl
without-filter l (m ∷ c) = elim (cases_Bool (same_lit l m)) [
  | inl e ↦ ap (λ b. if b then without l c else m ∷ without l c) e ∙ without-filter l c ∙ sym (ap (λ b. cond (not b) (m ∷ filter (λ m. not (same_lit l m)) c) (filter (λ m. not (same_lit l m)) c)) e)
  | inr e ↦
      ap (λ b. if b then without l c else m ∷ without l c) e
      ∙ ap (λ d. m ∷ d) (without-filter l c)
      ∙ sym (ap (λ b. cond (not b) (m ∷ filter (λ m. not (same_lit l m)) c) (filter (λ m. not (same_lit l m)) c)) e)
]

-- a literal stands in what is left without one exactly where it stands there and is another
pub has_lit-without : (l : Lit) (c : List Lit) (x : Lit) → has_lit (without l c) x ≡ (not (same_lit l x) && has_lit c x)
has_lit-without l c x = ap (λ d. has_lit d x) (without-filter l c) ∙ has_lit-filter (λ m. not (same_lit l m)) c x

-- what holds of all literals holds of those that pass a test
all_filter : (P : Lit → Type 0) (p : Lit → Bool) (c : List Lit) → AllByRecursion P c → AllByRecursion P (filter p c)
all_filter P p [] h = tt
all_filter P p (l ∷ c) h = by (p l) (all_filter P p c h.1)
  where
    by : (b : Bool) → AllByRecursion P (filter p c) → AllByRecursion P (cond b (l ∷ filter p c) (filter p c))
    by true rest = (h.0, rest)
    by false rest = rest

-- the literals of a clause that pass a test are in order
IsClause-filter : (p : Lit → Bool) (c : List Lit) → IsClause c → IsClause (filter p c)
IsClause-filter p [] h = tt
IsClause-filter p (l ∷ c) h = by (p l) (IsClause-filter p c h.1)
  where
    by : (b : Bool) → IsClause (filter p c) → IsClause (cond b (l ∷ filter p c) (filter p c))
    by true rest = (all_filter (λ m. lit_place l < lit_place m) p c h.0, rest)
    by false rest = rest

-- a clause without one of its literals is one
pub IsClause-without : (l : Lit) (c : List Lit) → IsClause c → IsClause (without l c)
IsClause-without l c h = subst IsClause (sym (without-filter l c)) (IsClause-filter (λ m. not (same_lit l m)) c h)

-- ---- a set by equality
module _ (eq : Lit → Lit → Bool) (equal : (x y : Lit) → eq x y ≡ true → x ≡ y) (same : (x : Lit) → eq x x ≡ true) where
  -- an equality that tells literals apart is that of literals
  eq_is : (x y : Lit) → eq x y ≡ same_lit x y
  eq_is x y = same_truths (eq x y) (same_lit x y) (λ h. same_self x y (equal x y h)) (λ h. subst (λ z. eq x z ≡ true) (same_is x y h) (same x))

  -- a literal is found by that equality exactly where it stands there
  pub any_is : (keys : List Lit) (l : Lit) → list_any (eq l) keys ≡ has_lit keys l
  any_is [] l = refl
  any_is (k ∷ keys) l = ap (λ b. b || list_any (eq l) keys) (eq_is l k) ∙ ap (λ b. same_lit l k || b) (any_is keys l)

  -- one literal is put in or taken out
  pub changed : (old new : List Lit) (l : Lit) (b : Bool) → ((x : Lit) → list_any (eq x) new ≡ cond (eq l x) b (list_any (eq x) old)) → (x : Lit) → has_lit new x ≡ cond (same_lit l x) b (has_lit old x)
  changed old new l b h x = sym (any_is new x) ∙ h x ∙ ap (λ e. cond e b (list_any (eq x) old)) (eq_is l x) ∙ ap (cond (same_lit l x) b) (any_is old x)

-- two literals are one either way round
turned : (l x : Lit) → same_lit l x ≡ same_lit x l
turned l x = same_truths (same_lit l x) (same_lit x l) (λ h. same_self x l (sym (same_is l x h))) (λ h. same_self l x (sym (same_is x l h)))

module _ (old new : List Lit) (l : Lit) where
  -- the set with one more literal is the clause with it
  pub inserted : ((x : Lit) → has_lit new x ≡ cond (same_lit l x) true (has_lit old x)) → clause_of new ≡ with_lit l (clause_of old)
  inserted h = one_clause (clause_of new) (with_lit l (clause_of old)) (IsClause-clause_of new) (IsClause-with_lit l (clause_of old) (IsClause-clause_of old)) (λ x.
      has_lit-clause_of new x ∙ h x ∙ by (same_lit l x) (has_lit old x) ∙ ap (λ b. b || has_lit old x) (turned l x) ∙ ap (λ b. same_lit x l || b) (sym (has_lit-clause_of old x)) ∙ sym (has_lit-with_lit l (clause_of old) x))
    where
      by : (a b : Bool) → cond a true b ≡ (a || b)
      by true b = refl
      by false b = refl

  -- a set over some variables stays one with a literal of theirs
  pub inserted_over : (vars : ℕ) → ((x : Lit) → has_lit new x ≡ cond (same_lit l x) true (has_lit old x)) → AreOver vars old → HasVariable vars l → AreOver vars new
  inserted_over vars h over here x stands = by (same_lit l x) refl (sym (h x) ∙ stands)
    where
      by : (a : Bool) → same_lit l x ≡ a → cond a true (has_lit old x) ≡ true → HasVariable vars x
      by true e p = subst (HasVariable vars) (same_is l x e) here
      by false e p = over x p

  -- the set without a literal is the clause without it
  pub removed : ((x : Lit) → has_lit new x ≡ cond (same_lit l x) false (has_lit old x)) → clause_of new ≡ without l (clause_of old)
  removed h = one_clause (clause_of new) (without l (clause_of old)) (IsClause-clause_of new) (IsClause-without l (clause_of old) (IsClause-clause_of old)) (λ x.
      has_lit-clause_of new x ∙ h x ∙ by (same_lit l x) (has_lit old x) ∙ ap (λ b. not (same_lit l x) && b) (sym (has_lit-clause_of old x)) ∙ sym (has_lit-without l (clause_of old) x))
    where
      by : (a b : Bool) → cond a false b ≡ (not a && b)
      by true b = refl
      by false b = refl

  -- a set over some variables stays one without a literal
  pub removed_over : (vars : ℕ) → ((x : Lit) → has_lit new x ≡ cond (same_lit l x) false (has_lit old x)) → AreOver vars old → AreOver vars new
  removed_over vars h over x stands = by (same_lit l x) (sym (h x) ∙ stands)
    where
      by : (a : Bool) → cond a false (has_lit old x) ≡ true → HasVariable vars x
      by true p = absurd (true≢false (sym p))
      by false p = over x p

-- what holds of each literal that stands there holds of all
all_of : (P : Lit → Type 0) (c : List Lit) → ((x : Lit) → has_lit c x ≡ true → P x) → AllByRecursion P c
all_of P [] h = tt
all_of P (l ∷ c) h = (h l (ap (λ b. b || has_lit c l) (same_self l l refl)), all_of P c (λ x q. h x (by (same_lit x l) (has_lit c x) q)))
  where
    by : (a b : Bool) → b ≡ true → (a || b) ≡ true
    by true b e = refl
    by false b e = e

-- the clause of a set over some variables is over these
pub over_variables : (vars : ℕ) (keys : List Lit) → AreOver vars keys → HasVariables vars (clause_of keys)
over_variables vars keys over = all_of (HasVariable vars) (clause_of keys) (λ x h. over x (sym (has_lit-clause_of keys x) ∙ h))
