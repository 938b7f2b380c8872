-- Laws of clauses: what stands in them, that they are lists in order, and that each set of literals has one such list.
use Rattle.std.proofs.Common.{◌≡◌, inl, inr, ℕ, ◌<◌, ◌≤◌, Bool, true, false, true≢false, not, ◌||◌, cond, List, [], ◌∷◌, ◌++◌, refl, sym, ap, ◌∙◌, subst, arith, if◌then◌else◌}
use Rattle.std.specs.Prelude.{◌==◌, nat_lt}
use Rattle.std.specs.Ordering.{nat_cmp, on}
use Rattle.std.specs.declared.cmp.Ordering.TheVariants.{Less, Equal, Greater}
use Rattle.std.specs.List.Sorted.{IsStrictlySortedBy}
use Rattle.std.proofs.lemmas.Map.Keys.{sorted_head, sorted_tail}
use Rattle.std.specs.List.{AllByRecursion, list_any, dedup, dedup_from}
use Rattle.std.proofs.lemmas.Bool.{cases_order, cases_Bool, eq-eqb, ne_eqb, eqb-true, lt-ltb, le-ltb, ltb-true, or_left, or_right}
use Rattle.cnf.specs.declared.lit.Lit.{Lit}
use Rattle.cnf.specs.Literals.{opposite, lit_place, same_lit, lit_true}
use Rattle.cnf.specs.Clauses.{has_lit, IsClause, with_lit, clause_of, IsClauseOf, without, resolvent, clause_true}
use Rattle.cnf.specs.LitOrder.{ties_are_same}

-- two tests with one meaning are one
pub same_truths : (x y : Bool) → (x ≡ true → y ≡ true) → (y ≡ true → x ≡ true) → x ≡ y
same_truths true y f g = sym (f refl)
same_truths false true f g = g refl
same_truths false false f g = refl

-- literals with one place in the order are one
pub same_is : (l m : Lit) → same_lit l m ≡ true → l ≡ m
same_is l m h = ties_are_same l m (eqb-true (lit_place l) (lit_place m) h)

-- a literal has one place in the order
pub same_self : (l m : Lit) → l ≡ m → same_lit l m ≡ true
same_self l m h = eq-eqb (lit_place l) (lit_place m) (ap lit_place h)

-- literals with different places are different
pub differs : (l m : Lit) → (lit_place l ≡ lit_place m → ⊥) → same_lit l m ≡ false
differs l m h = ne_eqb (lit_place l) (lit_place m) h

-- what stands below all literals of a list isn't among them
pub absent_below : (l : Lit) (c : List Lit) → AllByRecursion (λ m. lit_place l < lit_place m) c → has_lit c l ≡ false
absent_below l [] h = refl
absent_below l (m ∷ c) h = let below = h.0 in ap (λ b. b || has_lit c l) (differs l m (λ e. omega arith)) ∙ absent_below l c h.1

-- what comes no later than a literal comes ahead of all that are behind that one
pub below_more : (l m : Lit) (c : List Lit) → lit_place l ≤ lit_place m → AllByRecursion (λ x. lit_place m < lit_place x) c → AllByRecursion (λ x. lit_place l < lit_place x) c
below_more l m [] h all = tt
below_more l m (x ∷ c) h all = (let a = all.0 in omega arith, below_more l m c h all.1)

-- ---- one more literal
-- which of two literals comes first matters to no literal that is looked for
has_other : (l m x : Lit) (c : List Lit) → (same_lit x m || (same_lit x l || has_lit c x)) ≡ (same_lit x l || (same_lit x m || has_lit c x))
has_other l m x c = swap (same_lit x m) (same_lit x l) (has_lit c x)
  where
    swap : (a b d : Bool) → (a || (b || d)) ≡ (b || (a || d))
    swap true true d = refl
    swap true false d = refl
    swap false b d = refl

-- what implies a side of a disjunction adds nothing to it
or_twice : (a b d : Bool) → (a ≡ true → b ≡ true) → (b || d) ≡ (a || (b || d))
or_twice true true d h = refl
or_twice true false d h = absurd (true≢false (sym (h refl)))
or_twice false b d h = refl

-- with_lit by the three cases
pub with_lit-below : (l m : Lit) (c : List Lit) → lit_place l < lit_place m → with_lit l (m ∷ c) ≡ l ∷ m ∷ c
with_lit-below l m c h = ap (λ b. if b then l ∷ m ∷ c else (if same_lit l m then m ∷ c else m ∷ with_lit l c)) (lt-ltb (lit_place l) (lit_place m) h)

-- a literal that stands first is put in without change
pub with_lit-at : (l m : Lit) (c : List Lit) → lit_place l ≡ lit_place m → with_lit l (m ∷ c) ≡ m ∷ c
with_lit-at l m c h =
    ap (λ b. if b then l ∷ m ∷ c else (if same_lit l m then m ∷ c else m ∷ with_lit l c)) (le-ltb (lit_place l) (lit_place m) (omega arith))
    ∙ ap (λ b. if b then m ∷ c else m ∷ with_lit l c) (eq-eqb (lit_place l) (lit_place m) h)

-- a literal that comes behind the first one is put in behind it
pub with_lit-above : (l m : Lit) (c : List Lit) → lit_place m < lit_place l → with_lit l (m ∷ c) ≡ m ∷ with_lit l c
with_lit-above l m c h =
    ap (λ b. if b then l ∷ m ∷ c else (if same_lit l m then m ∷ c else m ∷ with_lit l c)) (le-ltb (lit_place l) (lit_place m) (omega arith))
    ∙ ap (λ b. if b then m ∷ c else m ∷ with_lit l c) (differs l m (λ e. omega arith))

-- a literal stands in a clause with one more exactly where it stood there, or is that one
pub has_lit-with_lit : (l : Lit) (c : List Lit) (x : Lit) → has_lit (with_lit l c) x ≡ (same_lit x l || has_lit c x)
has_lit-with_lit l [] x = refl
has_lit-with_lit l (m ∷ c) x = elim (cases_order (lit_place l) (lit_place m)) [
  | inl e ↦
      ap (λ d. has_lit d x) (with_lit-at l m c e)
      ∙ or_twice (same_lit x l) (same_lit x m) (has_lit c x) (λ s. same_self x m (same_is x l s ∙ ties_are_same l m e))
  | inr h ↦ elim h [
    | inl below ↦ ap (λ d. has_lit d x) (with_lit-below l m c below)
    | inr above ↦
        ap (λ d. has_lit d x) (with_lit-above l m c above)
        ∙ ap (λ b. same_lit x m || b) (has_lit-with_lit l c x)
        ∙ has_other l m x c
  ]
]

-- literals that all come behind a place still do with one more that does
all_with_lit : (k : ℕ) (l : Lit) (c : List Lit) → k < lit_place l → AllByRecursion (λ m. k < lit_place m) c → AllByRecursion (λ m. k < lit_place m) (with_lit l c)
all_with_lit k l [] h all = (h, tt)
all_with_lit k l (m ∷ c) h all = elim (cases_order (lit_place l) (lit_place m)) [
  | inl e ↦ subst (AllByRecursion (λ x. k < lit_place x)) (sym (with_lit-at l m c e)) all
  | inr g ↦ elim g [
    | inl below ↦ subst (AllByRecursion (λ x. k < lit_place x)) (sym (with_lit-below l m c below)) (h, all)
    | inr above ↦ subst (AllByRecursion (λ x. k < lit_place x)) (sym (with_lit-above l m c above)) (all.0, all_with_lit k l c h all.1)
  ]
]

-- a clause with one more literal is a clause
pub IsClause-with_lit : (l : Lit) (c : List Lit) → IsClause c → IsClause (with_lit l c)
IsClause-with_lit l [] h = (tt, tt)
IsClause-with_lit l (m ∷ c) h = elim (cases_order (lit_place l) (lit_place m)) [
  | inl e ↦ subst IsClause (sym (with_lit-at l m c e)) h
  | inr g ↦ elim g [
    | inl below ↦ subst IsClause (sym (with_lit-below l m c below)) ((below, below_more l m c (omega arith) h.0), h)
    | inr above ↦ subst IsClause (sym (with_lit-above l m c above)) (all_with_lit (lit_place m) l c above h.0, IsClause-with_lit l c h.1)
  ]
]

-- the clause of some literals is in order
pub IsClause-clause_of : (lits : List Lit) → IsClause (clause_of lits)
IsClause-clause_of [] = tt
IsClause-clause_of (l ∷ lits) = IsClause-with_lit l (clause_of lits) (IsClause-clause_of lits)

-- the clause of some literals has just these
pub has_lit-clause_of : (lits : List Lit) (x : Lit) → has_lit (clause_of lits) x ≡ has_lit lits x
has_lit-clause_of [] x = refl
has_lit-clause_of (l ∷ lits) x = has_lit-with_lit l (clause_of lits) x ∙ ap (λ b. same_lit x l || b) (has_lit-clause_of lits x)

-- ---- each set of literals has one clause
module _ (l : Lit) (c d : List Lit) (in_c : IsClause (l ∷ c)) (in_d : IsClause (l ∷ d)) where
  -- clauses with one first literal and the same literals have the same behind it
  same_rest : ((x : Lit) → has_lit (l ∷ c) x ≡ has_lit (l ∷ d) x) → (x : Lit) → has_lit c x ≡ has_lit d x
  same_rest same x = elim (cases_Bool (same_lit x l)) [
    | inl e ↦
        let at = same_is x l e in
        subst (λ y. has_lit c y ≡ has_lit d y) (sym at) (absent_below l c in_c.0 ∙ sym (absent_below l d in_d.0))
    | inr e ↦ ap (λ b. b || has_lit c x) (sym e) ∙ same x ∙ ap (λ b. b || has_lit d x) e
  ]

-- of two clauses the one with the greater first literal lacks that of the other
not_there : (l m : Lit) (c d : List Lit) → lit_place l < lit_place m → AllByRecursion (λ x. lit_place m < lit_place x) d → has_lit (l ∷ c) l ≡ has_lit (m ∷ d) l → ⊥
not_there l m c d h all same =
    let below = absent_below l (m ∷ d) (h, below_more l m d (omega arith) all) in
    true≢false (ap (λ b. b || has_lit c l) (sym (same_self l l refl)) ∙ same ∙ below)

-- clauses with the same literals are one
pub one_clause : (c d : List Lit) → IsClause c → IsClause d → ((x : Lit) → has_lit c x ≡ has_lit d x) → c ≡ d
one_clause [] [] h k same = refl
one_clause [] (m ∷ d) h k same = absurd (true≢false (ap (λ b. b || has_lit d m) (sym (same_self m m refl)) ∙ sym (same m)))
one_clause (l ∷ c) [] h k same = absurd (true≢false (ap (λ b. b || has_lit c l) (sym (same_self l l refl)) ∙ same l))
one_clause (l ∷ c) (m ∷ d) h k same = elim (cases_order (lit_place l) (lit_place m)) [
  | inl e ↦
      let at = ties_are_same l m e in
      let k' = subst (λ x. IsClause (x ∷ d)) (sym at) k in
      let same' = subst (λ y. (x : Lit) → has_lit (l ∷ c) x ≡ has_lit (y ∷ d) x) (sym at) same in
      ap (λ x. x ∷ c) at ∙ ap (λ rest. m ∷ rest) (one_clause c d h.1 k.1 (same_rest l c d h k' same'))
  | inr g ↦ elim g [
    | inl below ↦ absurd (not_there l m c d below k.0 (same l))
    | inr above ↦ absurd (not_there m l d c above h.0 (sym (same m)))
  ]
]

-- a clause that has just these literals is theirs
pub clause_from : (lits c : List Lit) → IsClauseOf lits c → c ≡ clause_of lits
clause_from lits c h = one_clause c (clause_of lits) h.ordered (IsClause-clause_of lits) (λ x. h.same x ∙ sym (has_lit-clause_of lits x))

-- ---- truth
-- two sides of a disjunction exchanged
or_swap : (a b d : Bool) → (a || (b || d)) ≡ (b || (a || d))
or_swap true true d = refl
or_swap true false d = refl
or_swap false b d = refl

-- a side of a disjunction twice is that side
or_same : (a d : Bool) → (a || d) ≡ (a || (a || d))
or_same true d = refl
or_same false d = refl

-- a clause with one more literal is true where that literal or the clause is
pub clause_true-with_lit : (v : ℕ → Bool) (l : Lit) (c : List Lit) → clause_true v (with_lit l c) ≡ (lit_true v l || clause_true v c)
clause_true-with_lit v l [] = refl
clause_true-with_lit v l (m ∷ c) = elim (cases_order (lit_place l) (lit_place m)) [
  | inl e ↦
      ap (clause_true v) (with_lit-at l m c e)
      ∙ or_same (lit_true v m) (clause_true v c)
      ∙ ap (λ x. lit_true v x || (lit_true v m || clause_true v c)) (sym (ties_are_same l m e))
  | inr g ↦ elim g [
    | inl below ↦ ap (clause_true v) (with_lit-below l m c below)
    | inr above ↦
        ap (clause_true v) (with_lit-above l m c above)
        ∙ ap (λ b. lit_true v m || b) (clause_true-with_lit v l c)
        ∙ or_swap (lit_true v m) (lit_true v l) (clause_true v c)
  ]
]

-- the clause of some literals is true where one of these is
pub clause_true-clause_of : (v : ℕ → Bool) (lits : List Lit) → clause_true v (clause_of lits) ≡ clause_true v lits
clause_true-clause_of v [] = refl
clause_true-clause_of v (l ∷ lits) = clause_true-with_lit v l (clause_of lits) ∙ ap (λ b. lit_true v l || b) (clause_true-clause_of v lits)

-- literals of two clauses joined are true where one of the two is
pub clause_true-append : (v : ℕ → Bool) (c d : List Lit) → clause_true v (c ++ d) ≡ (clause_true v c || clause_true v d)
clause_true-append v [] d = refl
clause_true-append v (l ∷ c) d = ap (λ b. lit_true v l || b) (clause_true-append v c d) ∙ or_assoc (lit_true v l) (clause_true v c) (clause_true v d)
  where
    or_assoc : (a b e : Bool) → (a || (b || e)) ≡ ((a || b) || e)
    or_assoc true b e = refl
    or_assoc false b e = refl

-- a false literal is not what makes a clause true
pub clause_true-without : (v : ℕ → Bool) (l : Lit) (c : List Lit) → lit_true v l ≡ false → clause_true v (without l c) ≡ clause_true v c
clause_true-without v l [] f = refl
clause_true-without v l (m ∷ c) f = elim (cases_Bool (same_lit l m)) [
  | inl e ↦
      ap (λ b. clause_true v (if b then without l c else m ∷ without l c)) e
      ∙ clause_true-without v l c f
      ∙ ap (λ b. b || clause_true v c) (sym (ap (lit_true v) (sym (same_is l m e)) ∙ f))
  | inr e ↦
      ap (λ b. clause_true v (if b then without l c else m ∷ without l c)) e
      ∙ ap (λ b. lit_true v m || b) (clause_true-without v l c f)
]

-- the opposite of a literal is true exactly where the literal is false
pub lit_true-opposite : (v : ℕ → Bool) (l : Lit) → lit_true v (opposite l) ≡ not (lit_true v l)
lit_true-opposite v l = by l.positive (v l.var)
  where
    by : (p x : Bool) → (if not p then x else not x) ≡ not (if p then x else not x)
    by true x = refl
    by false true = refl
    by false false = refl

-- where two clauses are true, so is their resolvent
pub resolvent_true : (v : ℕ → Bool) (pivot : Lit) (c d : List Lit) → clause_true v c ≡ true → clause_true v d ≡ true → clause_true v (resolvent pivot c d) ≡ true
resolvent_true v pivot c d h k =
    clause_true-clause_of v (without pivot c ++ without (opposite pivot) d)
    ∙ clause_true-append v (without pivot c) (without (opposite pivot) d)
    ∙ elim (cases_Bool (lit_true v pivot)) [
      | inl e ↦ or_right (clause_true v (without pivot c)) (clause_true v (without (opposite pivot) d)) (clause_true-without v (opposite pivot) d (lit_true-opposite v pivot ∙ ap not e) ∙ k)
      | inr e ↦ or_left (clause_true v (without pivot c)) (clause_true v (without (opposite pivot) d)) (clause_true-without v pivot c e ∙ h)
    ]

-- ---- a list that was sorted and rid of what stands twice
-- numbers that compare as less are
less_from : (a b : ℕ) → nat_cmp a b ≡ Less → a < b
less_from a b h = elim (cases_Bool (nat_lt a b)) [
  | inl e ↦ ltb-true a b e
  | inr e ↦ absurd (not_less (a == b) (sym (ap (λ t. cond t Less (cond (a == b) Equal Greater)) e) ∙ h))
]
  where
    not_less : (t : Bool) → cond t Equal Greater ≡ Less → ⊥
    not_less true g = cc
    not_less false g = cc

-- literals that are sorted without repetition are a clause
pub IsClause-from_sorted : (c : List Lit) → IsStrictlySortedBy (on lit_place nat_cmp) c → IsClause c
IsClause-from_sorted [] h = tt
IsClause-from_sorted (l ∷ c) h = (each c (sorted_head (on lit_place nat_cmp) l c h), IsClause-from_sorted c (sorted_tail (on lit_place nat_cmp) l c h))
  where
    each : (d : List Lit) → AllByRecursion (λ y. on lit_place nat_cmp l y ≡ Less) d → AllByRecursion (λ m. lit_place l < lit_place m) d
    each [] h = tt
    each (m ∷ d) h = (less_from (lit_place l) (lit_place m) h.0, each d h.1)

module _ {X : Type 0} (E : X → X → Bool) (p : X → Bool) (alike : (a b : X) → E a b ≡ true → p a ≡ p b) where
  -- what is looked for is found behind a first entry, with repetitions or without
  list_any-dedup_from : (k : X) (xs : List X) → list_any p (dedup_from E k xs) ≡ (p k || list_any p xs)
  list_any-dedup_from k [] = refl
  list_any-dedup_from k (x ∷ xs) = elim (cases_Bool (E x k)) [
    | inl e ↦
        ap (λ b. list_any p (cond b (dedup_from E k xs) (k ∷ dedup_from E x xs))) e
        ∙ list_any-dedup_from k xs
        ∙ or_same (p k) (list_any p xs)
        ∙ ap (λ b. p k || (b || list_any p xs)) (sym (alike x k e))
    | inr e ↦
        ap (λ b. list_any p (cond b (dedup_from E k xs) (k ∷ dedup_from E x xs))) e
        ∙ ap (λ b. p k || b) (list_any-dedup_from x xs)
  ]

  -- what is looked for is found in a list without its repetitions exactly where it is found in the list
  pub list_any-dedup : (xs : List X) → list_any p (dedup E xs) ≡ list_any p xs
  list_any-dedup [] = refl
  list_any-dedup (x ∷ xs) = list_any-dedup_from x xs

-- the variables of a clause are those of its literals
all_with_lit_of : (P : Lit → Type 0) (l : Lit) (c : List Lit) → P l → AllByRecursion P c → AllByRecursion P (with_lit l c)
all_with_lit_of P l [] p h = (p, tt)
all_with_lit_of P l (m ∷ c) p h = elim (cases_order (lit_place l) (lit_place m)) [
  | inl e ↦ subst (AllByRecursion P) (sym (with_lit-at l m c e)) h
  | inr g ↦ elim g [
    | inl below ↦ subst (AllByRecursion P) (sym (with_lit-below l m c below)) (p, h)
    | inr above ↦ subst (AllByRecursion P) (sym (with_lit-above l m c above)) (h.0, all_with_lit_of P l c p h.1)
  ]
]

-- what holds of some literals holds of their clause
pub all-clause_of : (P : Lit → Type 0) (lits : List Lit) → AllByRecursion P lits → AllByRecursion P (clause_of lits)
all-clause_of P [] h = tt
all-clause_of P (l ∷ lits) h = all_with_lit_of P l (clause_of lits) h.0 (all-clause_of P lits h.1)
