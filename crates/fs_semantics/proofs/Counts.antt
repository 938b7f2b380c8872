-- Lists of numbers: how often each stands there, what holds of all, what stands ahead.
use Rattle.std.proofs.Common.{◌≡◌, ◌≢◌, ℕ, true, false, cond, ◌==◌, ◌+◌, ◌<◌, List, [], ◌∷◌, ◌++◌, refl, sym, ap, ◌∙◌, subst, arith, eqb-true, eq-eqb, ne_eqb, zero-add}
use Rattle.std.specs.List.{AllByRecursion}
use Rattle.fs_semantics.specs.Orders.{times, NoneAhead}

-- how often a number stands in two lists joined
pub times_append : (k : ℕ) (xs ys : List ℕ) → times k (xs ++ ys) ≡ times k xs + times k ys
times_append k [] ys = omega arith
times_append k (x ∷ xs) ys = omega (arith, times_append k xs ys)

-- a list with a number in front has it once more
pub times_itself : (x : ℕ) (xs : List ℕ) → times x (x ∷ xs) ≡ 1 + times x xs
times_itself x xs = ap (λ b. cond b 1 0 + times x xs) (eq-eqb x x refl)

-- what isn't the number counts for nothing
pub none_here : (k x : ℕ) (xs : List ℕ) → (x == k) ≡ false → times k (x ∷ xs) ≡ times k xs
none_here k x xs e = ap (λ b. cond b 1 0 + times k xs) e ∙ zero-add _

-- another number in front counts for nothing
pub times_other : (k x : ℕ) (xs : List ℕ) → k ≢ x → times k (x ∷ xs) ≡ times k xs
times_other k x xs ne = none_here k x xs (ne_eqb x k (λ e. ne (sym e)))

-- what is counted stands somewhere
pub times_found : (k : ℕ) (xs : List ℕ) → 0 < times k xs → (front : List ℕ) × (back : List ℕ) × (xs ≡ front ++ k ∷ back)
times_found k [] h = absurd (omega arith)
times_found k (x ∷ xs) h = elim (x == k) as (λ b. (x == k) ≡ b → (front : List ℕ) × (back : List ℕ) × (x ∷ xs ≡ front ++ k ∷ back)) [
  | true ↦ λ e. ([], xs, ap (λ y. y ∷ xs) (eqb-true x k e))
  | false ↦ λ e. let rest = times_found k xs (omega (arith, none_here k x xs e)) in (x ∷ rest.0, rest.1, ap (λ ys. x ∷ ys) rest.2)
] refl

-- what holds of all numbers of two lists holds of all of both joined
pub all_append : (P : ℕ → Type 0) (xs ys : List ℕ) → AllByRecursion P xs → AllByRecursion P ys → AllByRecursion P (xs ++ ys)
all_append P [] ys h i = i
all_append P (x ∷ xs) ys h i = (h.0, all_append P xs ys h.1 i)

-- what holds of all numbers of two lists joined holds of those of the first
pub all_front : (P : ℕ → Type 0) (xs ys : List ℕ) → AllByRecursion P (xs ++ ys) → AllByRecursion P xs
all_front P [] ys h = tt
all_front P (x ∷ xs) ys h = (h.0, all_front P xs ys h.1)

-- and of those of the second
pub all_back : (P : ℕ → Type 0) (xs ys : List ℕ) → AllByRecursion P (xs ++ ys) → AllByRecursion P ys
all_back P [] ys h = h
all_back P (x ∷ xs) ys h = all_back P xs ys h.1

-- what holds of all holds of each that stands there
pub all_at : (P : ℕ → Type 0) (xs : List ℕ) (k : ℕ) → AllByRecursion P xs → 0 < times k xs → P k
all_at P xs k h m =
    let split = times_found k xs m in
    (all_back P split.0 (k ∷ split.1) (subst (AllByRecursion P) split.2 h)).0

-- and what holds of each that stands there holds of all
pub all_from : (P : ℕ → Type 0) (xs : List ℕ) → ((k : ℕ) → 0 < times k xs → P k) → AllByRecursion P xs
all_from P [] h = tt
all_from P (x ∷ xs) h = (h x (omega (arith, times_itself x xs)), all_from P xs (λ k m. h k (omega arith)))

-- in an allowed order no number comes before one that stands ahead of it
pub none_ahead_behind : (before : ℕ → ℕ → Type 0) (front : List ℕ) (x : ℕ) (back : List ℕ) → NoneAhead before (front ++ x ∷ back) → AllByRecursion (λ z. before x z → ⊥) front
none_ahead_behind before [] x back h = tt
none_ahead_behind before (y ∷ front) x back h =
    ((all_back (λ a. before a y → ⊥) front (x ∷ back) h.0).0, none_ahead_behind before front x back h.1)

-- one may be left out
pub none_ahead_without : (before : ℕ → ℕ → Type 0) (front : List ℕ) (x : ℕ) (back : List ℕ) → NoneAhead before (front ++ x ∷ back) → NoneAhead before (front ++ back)
none_ahead_without before [] x back h = h.1
none_ahead_without before (y ∷ front) x back h =
    let P : ℕ → Type 0 = λ a. before a y → ⊥ in
    (all_append P front back (all_front P front (x ∷ back) h.0) (all_back P front (x ∷ back) h.0).1, none_ahead_without before front x back h.1)

-- of two that stand one ahead of the other, the second doesn't come before the first
pub none_ahead_at : (before : ℕ → ℕ → Type 0) (front : List ℕ) (x : ℕ) (back : List ℕ) → NoneAhead before (front ++ x ∷ back) → AllByRecursion (λ a. before a x → ⊥) back
none_ahead_at before [] x back h = h.0
none_ahead_at before (y ∷ front) x back h = none_ahead_at before front x back h.1

-- one that comes before none of the others may stand last
pub none_ahead_push : (before : ℕ → ℕ → Type 0) (xs : List ℕ) (k : ℕ) → NoneAhead before xs → AllByRecursion (λ b. before k b → ⊥) xs → NoneAhead before (xs ++ k ∷ [])
none_ahead_push before [] k h i = (tt, tt)
none_ahead_push before (x ∷ xs) k h i =
    (all_append (λ a. before a x → ⊥) xs (k ∷ []) h.0 (i.0, tt), none_ahead_push before xs k h.1 i.1)
