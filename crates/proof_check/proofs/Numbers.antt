-- Laws of the numbers of clauses, and of literals that are put into a set.
use Rattle.std.proofs.Common.{◌≡◌, ◌⊎◌, inl, inr, ℕ, zero, suc, ◌+◌, ◌-◌, ◌<◌, ◌≤◌, Bool, true, false, ◌||◌, List, [], ◌∷◌, ◌++◌, length, map, take, slice_get, unwrap_or, Some, None, refl, sym, ap, ◌∙◌, subst, arith}
use Rattle.std.specs.Option.{option_map}
use Rattle.std.specs.List.{AllByRecursion}
use Rattle.std.proofs.lemmas.List.{length-map, length-append, take_more, append-nil, map-append, append_assoc}
use Rattle.std.proofs.lemmas.Option.{slice_get-get_or, slice_get_past, slice_get-map, slice_get_within, get_or_from_slice_get}
use Rattle.cnf.specs.declared.lit.Lit.{Lit}
use Rattle.cnf.specs.declared.log.Step.{Step}
use Rattle.cnf.specs.Literals.{opposite, same_lit}
use Rattle.cnf.specs.Clauses.{has_lit, IsClause, with_lit, clause_of, without, resolvent, HasVariables}
use Rattle.cnf.specs.Formulas.{Formula, IsFormula, clause_at}
use Rattle.cnf.specs.Proofs.{numbered}
use Rattle.cnf.proofs.ClauseLaws.{one_clause, IsClause-with_lit, IsClause-clause_of, has_lit-with_lit, has_lit-clause_of}
use Rattle.proof_check.specs.Joining.{earlier_of, joined, AreClean}
use Rattle.proof_check.proofs.LitLaws.{has_lit-append, IsClause-without}

-- the clause with a number, from 1 on, stands one place earlier, from 0 on
pub numbered_at : (cs : List (List Lit)) (n : ℕ) → 1 ≤ n → numbered cs n ≡ slice_get cs (n - 1)
numbered_at cs zero h = absurd (omega arith)
numbered_at cs (suc n) h = ap (slice_get cs) (let e : n ≡ suc n - 1 = omega arith in e)

-- what stands in the first of two lists stands at the same place of both joined
slice_get-left : {X : Type 0} (xs ys : List X) (k : ℕ) → k < length xs → slice_get (xs ++ ys) k ≡ slice_get xs k
slice_get-left [] ys k h = absurd (omega arith)
slice_get-left (x ∷ xs) ys zero h = refl
slice_get-left (x ∷ xs) ys (suc k) h = slice_get-left xs ys k (omega arith)

-- what stands in the second of two lists stands behind the first
slice_get-right : {X : Type 0} (xs ys : List X) (k : ℕ) → slice_get (xs ++ ys) (length xs + k) ≡ slice_get ys k
slice_get-right [] ys k = ap (slice_get ys) (let e : 0 + k ≡ k = omega arith in e)
slice_get-right (x ∷ xs) ys k = ap (slice_get (x ∷ (xs ++ ys))) (let e : suc (length xs) + k ≡ suc (length xs + k) = omega arith in e) ∙ slice_get-right xs ys k

-- numbers up to the count of the formula's clauses name these
pub in_formula : (f : Formula) (steps : List Step) (n : ℕ) → 1 ≤ n → n ≤ length f.clauses → numbered (earlier_of f steps) n ≡ Some (clause_at f n)
in_formula f steps n low high =
    numbered_at (earlier_of f steps) n low
    ∙ slice_get-left f.clauses (map (λ s. s.clause) steps) (n - 1) (omega arith)
    ∙ slice_get-get_or f.clauses (n - 1) [] (omega arith)
    ∙ ap Some (sym (ap (λ o. unwrap_or o []) (slice_get-get_or f.clauses (n - 1) [] (omega arith))))

-- the numbers behind them name the steps' clauses, in order
pub in_steps : (f : Formula) (steps : List Step) (n i : ℕ) (s : Step) → i + length f.clauses + 1 ≡ n → slice_get steps i ≡ Some s → numbered (earlier_of f steps) n ≡ Some s.clause
in_steps f steps n i s e at =
    numbered_at (earlier_of f steps) n (omega arith)
    ∙ ap (slice_get (earlier_of f steps)) (let d : n - 1 ≡ length f.clauses + i = omega arith in d)
    ∙ slice_get-right f.clauses (map (λ s. s.clause) steps) i
    ∙ slice_get-map (λ (s : Step). s.clause) steps i
    ∙ ap (λ o. option_map (λ (s : Step). s.clause) o) at

-- greater numbers name nothing
pub in_none : (f : Formula) (steps : List Step) (n : ℕ) → length f.clauses + length steps < n → numbered (earlier_of f steps) n ≡ None
in_none f steps n h =
    numbered_at (earlier_of f steps) n (omega arith)
    ∙ slice_get_past (earlier_of f steps) (n - 1) (omega (arith, length-append f.clauses (map (λ (s : Step). s.clause) steps), length-map steps (λ (s : Step). s.clause)))

-- the front with one entry more is the front and the entry that stands there
pub take_more_at : {X : Type 0} (xs : List X) (k : ℕ) (x : X) → slice_get xs k ≡ Some x → take (k + 1) xs ≡ take k xs ++ x ∷ []
take_more_at xs k x at = take_more xs k x (slice_get_within xs k x at) ∙ ap (λ y. take k xs ++ y ∷ []) (get_or_from_slice_get xs k x x at)

-- ---- sets that literals were put into
-- literals put into a clause one by one leave it a clause
IsClause-joined : (c lits : List Lit) → IsClause c → IsClause (joined c lits)
IsClause-joined c [] h = h
IsClause-joined c (l ∷ lits) h = IsClause-joined (with_lit l c) lits (IsClause-with_lit l c h)

-- a literal stands there afterwards exactly where it stood there or was put in
has_lit-joined : (c lits : List Lit) (x : Lit) → has_lit (joined c lits) x ≡ (has_lit c x || has_lit lits x)
has_lit-joined c [] x = sym (or_none (has_lit c x))
  where
    or_none : (a : Bool) → (a || false) ≡ a
    or_none true = refl
    or_none false = refl
has_lit-joined c (l ∷ lits) x =
    has_lit-joined (with_lit l c) lits x
    ∙ ap (λ b. b || has_lit lits x) (has_lit-with_lit l c x)
    ∙ turn (same_lit x l) (has_lit c x) (has_lit lits x)
  where
    turn : (a b d : Bool) → ((a || b) || d) ≡ (b || (a || d))
    turn true true d = refl
    turn true false d = refl
    turn false b d = refl

-- literals put into a clause one by one give the clause of all of them
pub joined_is : (c lits : List Lit) → IsClause c → joined c lits ≡ clause_of (c ++ lits)
joined_is c lits h =
    one_clause (joined c lits) (clause_of (c ++ lits)) (IsClause-joined c lits h) (IsClause-clause_of (c ++ lits))
    (λ x. has_lit-joined c lits x ∙ sym (has_lit-clause_of (c ++ lits) x ∙ has_lit-append c lits x))

-- a clause that is put into the empty set
pub joined_none : (c : List Lit) → IsClause c → joined [] c ≡ c
joined_none c h = one_clause (joined [] c) c (IsClause-joined [] c tt) h (λ x. has_lit-joined [] c x)

-- ---- the clauses ahead of a step are clauses over the formula's variables
-- what holds of all entries holds of the one at a place
all_at : {X : Type 0} (P : X → Type 0) (xs : List X) (k : ℕ) (x : X) → AllByRecursion P xs → slice_get xs k ≡ Some x → P x
all_at P [] k x h e = absurd cc
all_at P (y ∷ xs) zero x h e = let s : y ≡ x = cc in subst P s h.0
all_at P (y ∷ xs) (suc k) x h e = all_at P xs k x h.1 e

-- the clauses of a formula are clauses over its variables
pub clean_formula : (f : Formula) → IsFormula f → AreClean f.vars (earlier_of f [])
clean_formula f s zero c e = absurd cc
clean_formula f s (suc k) c e =
    let at : slice_get f.clauses k ≡ Some c = ap (λ cs. slice_get cs k) (sym (append-nil f.clauses)) ∙ e in
    (all_at IsClause f.clauses k c s.clauses at, all_at (HasVariables f.vars) f.clauses k c s.variables at)

-- what stands in a list with one more entry stood there, or is that entry
pub push_at : {X : Type 0} (xs : List X) (y : X) (k : ℕ) (x : X) → slice_get (xs ++ y ∷ []) k ≡ Some x → (slice_get xs k ≡ Some x) ⊎ (y ≡ x)
push_at [] y zero x e = inr cc
push_at [] y (suc k) x e = absurd cc
push_at (z ∷ xs) y zero x e = inl e
push_at (z ∷ xs) y (suc k) x e = push_at xs y k x e

-- one more clause over the variables leaves all of them such
pub clean_push : (n : ℕ) (cs : List (List Lit)) (c : List Lit) → AreClean n cs → IsClause c → HasVariables n c → AreClean n (cs ++ c ∷ [])
clean_push n cs c h k v zero d e = absurd cc
clean_push n cs c h k v (suc m) d e = elim (push_at cs c m d e) [ inl old ↦ h (suc m) d old | inr new ↦ subst (λ x. IsClause x × HasVariables n x) new (k, v) ]

-- the clauses ahead of the next step are those ahead of this one, and its own
pub earlier_more : (f : Formula) (steps : List Step) (i : ℕ) (s : Step) → slice_get steps i ≡ Some s → earlier_of f (take (i + 1) steps) ≡ earlier_of f (take i steps) ++ s.clause ∷ []
earlier_more f steps i s at =
    ap (earlier_of f) (take_more_at steps i s at)
    ∙ ap (λ t. f.clauses ++ t) (map-append (λ (s : Step). s.clause) (take i steps) (s ∷ []))
    ∙ sym (append_assoc f.clauses (map (λ (s : Step). s.clause) (take i steps)) (s.clause ∷ []))

-- what is put in where a pivot was taken out is the resolvent
pub resolved : (c named : List Lit) (pivot : Lit) → IsClause c → joined (without pivot c) (without (opposite pivot) named) ≡ resolvent pivot c named
resolved c named pivot h = joined_is (without pivot c) (without (opposite pivot) named) (IsClause-without pivot c h)
