-- How often numbers stand in a list.
use Rattle.std.proofs.Common.{◌≡◌, ℕ, zero, suc, ◌+◌, ◌<◌, ◌≤◌, ◌==◌, true, false, cond, List, [], ◌∷◌, length, refl, sym, ap, ◌∙◌, arith, eqb-true, nat_lt, ltb-true}
use Rattle.std.proofs.lemmas.Bool.{eqb-false, ltb-false}
use Rattle.std.specs.List.{AllByRecursion}
use Rattle.fs_semantics.specs.Orders.{times}

-- how often all numbers below n stand in a list
abbrev pub total : ℕ → List ℕ → ℕ
total zero order = 0
total (suc n) order = total n order + times n order

-- a number past the last counts for nothing in the total
one_more : (n i : ℕ) (order : List ℕ) → n ≤ i → total n (i ∷ order) ≡ total n order
one_more zero i order h = refl
one_more (suc n) i order h = elim (i == n) as (λ b. (i == n) ≡ b → total n (i ∷ order) + (cond b 1 0 + times n order) ≡ total n order + times n order) [
  | true ↦ λ e. let same = eqb-true i n e in absurd (omega (arith, h, same))
  | false ↦ λ e. let rest = one_more n i order (omega (arith, h)) in omega (arith, rest)
] refl

-- a number below the last counts for one in the total
counted : (n i : ℕ) (order : List ℕ) → i < n → total n (i ∷ order) ≡ 1 + total n order
counted zero i order h = absurd (omega (arith, h))
counted (suc n) i order h = elim (i == n) as (λ b. (i == n) ≡ b → total n (i ∷ order) + (cond b 1 0 + times n order) ≡ 1 + (total n order + times n order)) [
  | true ↦ λ e. let same = eqb-true i n e in let rest = one_more n i order (omega (arith, same)) in omega (arith, rest)
  | false ↦ λ e. let apart = eqb-false i n e in let rest = counted n i order (below apart) in omega (arith, rest)
] refl
  where
    below : (i ≡ n → ⊥) → i < n
    below k = elim (nat_lt i n) as (λ b. nat_lt i n ≡ b → i < n) [
      | true ↦ λ e. ltb-true i n e
      | false ↦ λ e. let past = ltb-false i n e in absurd (k (omega (arith, h, past)))
    ] refl

-- the empty list has a total of nothing
none_counted : (n : ℕ) → total n [] ≡ 0
none_counted zero = refl
none_counted (suc n) = let none = none_counted n in omega (arith, none)

-- where all numbers are below n, that is how many there are
pub total_is : (n : ℕ) (order : List ℕ) → AllByRecursion (λ k. k < n) order → total n order ≡ length order
total_is n [] h = none_counted n
total_is n (i ∷ order) h = let one = counted n i order h.0 in let rest = total_is n order h.1 in omega (arith, one, rest)

-- a list with each number once at most has a total of at most as many
at_most : (n : ℕ) (order : List ℕ) → ((k : ℕ) → k < n → times k order ≤ 1) → total n order ≤ n
at_most zero order h = omega arith
at_most (suc n) order h = let rest = at_most n order (λ k b. h k (omega (arith, b))) in let last = h n (omega arith) in omega (arith, rest, last)

-- so where none stands twice and there are n, each stands once
pub each_once : (n : ℕ) (order : List ℕ) → ((k : ℕ) → k < n → times k order ≤ 1) → total n order ≡ n → (k : ℕ) → k < n → times k order ≡ 1
each_once zero order h e k b = absurd (omega (arith, b))
each_once (suc n) order h e k b =
    let rest = at_most n order (λ j l. h j (omega (arith, l))) in
    let last = h n (omega arith) in
    elim (k == n) as (λ c. (k == n) ≡ c → times k order ≡ 1) [
      | true ↦ λ same. ap (λ j. times j order) (eqb-true k n same) ∙ omega (arith, e, rest, last)
      | false ↦ λ other. let apart = eqb-false k n other in each_once n order (λ j l. h j (omega (arith, l))) (omega (arith, e, rest, last)) k (below apart)
    ] refl
  where
    below : (k ≡ n → ⊥) → k < n
    below f = elim (nat_lt k n) as (λ c. nat_lt k n ≡ c → k < n) [
      | true ↦ λ l. ltb-true k n l
      | false ↦ λ l. let past = ltb-false k n l in absurd (f (omega (arith, b, past)))
    ] refl

-- a list with each number once has a total of just as many
all_one : (n : ℕ) (order : List ℕ) → ((k : ℕ) → k < n → times k order ≡ 1) → total n order ≡ n
all_one zero order h = refl
all_one (suc n) order h = let rest = all_one n order (λ k b. h k (omega (arith, b))) in let last = h n (omega arith) in omega (arith, rest, last)

-- a list of numbers below n, each once, has n entries
pub long_enough : (n : ℕ) (order : List ℕ) → AllByRecursion (λ k. k < n) order → ((k : ℕ) → k < n → times k order ≡ 1) → length order ≡ n
long_enough n order below once = sym (total_is n order below) ∙ all_one n order once
