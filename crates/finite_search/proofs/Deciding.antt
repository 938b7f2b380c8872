-- What is decided, and how words that join it are.
use Rattle.std.proofs.Common.{◌≡◌, ◌⊎◌, inl, inr, ℕ, zero, suc, ◌<◌, ◌==◌, nat_lt, Bool, true, false, List, [], ◌∷◌, refl, sym, subst, arith, eqb-true, ltb-true}
use Rattle.std.proofs.lemmas.Bool.{eqb-false, ltb-false, or_cases, or_left, or_right}
use Rattle.std.specs.Prelude.{IsTrue}
use Rattle.std.specs.List.{list_any, AllByRecursion}

-- it holds, or it doesn't
abbrev pub Decided : Type 0 → Type 0
Decided P = P ⊎ (P → ⊥)

-- what says the same is decided too
pub decided_as : {P Q : Type 0} → (P → Q) → (Q → P) → Decided P → Decided Q
decided_as there back (inl p) = inl (there p)
decided_as there back (inr n) = inr (λ q. n (back q))

-- so are two together
pub decided_both : {P Q : Type 0} → Decided P → Decided Q → Decided (P × Q)
decided_both (inl p) (inl q) = inl (p, q)
decided_both (inl p) (inr n) = inr (λ h. n h.1)
decided_both (inr n) d = inr (λ h. n h.0)

-- that the one implies the other
pub decided_then : {P Q : Type 0} → Decided P → Decided Q → Decided (P → Q)
decided_then (inl p) (inl q) = inl (λ x. q)
decided_then (inl p) (inr n) = inr (λ f. n (f p))
decided_then (inr n) d = inl (λ p. absurd (n p))

-- and that it doesn't hold
pub decided_not : {P : Type 0} → Decided P → Decided (P → ⊥)
decided_not (inl p) = inr (λ n. n p)
decided_not (inr n) = inl n

-- a test tells
pub decided_true : (b : Bool) → Decided (IsTrue b)
decided_true true = inl refl
decided_true false = inr (λ h. cc)

-- whether one number is below another
pub decided_below : (k n : ℕ) → Decided (k < n)
decided_below k n = elim (nat_lt k n) as (λ b. nat_lt k n ≡ b → Decided (k < n)) [
  | true ↦ λ e. inl (ltb-true k n e)
  | false ↦ λ e. let past = ltb-false k n e in inr (λ h. omega (arith, h, past))
] refl

-- whether all of a list have what is decided of each
pub decided_all : {A : Type 0} (P : A → Type 0) → ((x : A) → Decided (P x)) → (xs : List A) → Decided (AllByRecursion P xs)
decided_all P d [] = inl tt
decided_all P d (x ∷ xs) = decided_both (d x) (decided_all P d xs)

-- whether all numbers below n have it
pub decided_each_below : (P : ℕ → Type 0) → ((k : ℕ) → Decided (P k)) → (n : ℕ) → Decided ((k : ℕ) → k < n → P k)
decided_each_below P d zero = inl (λ k h. absurd (omega (arith, h)))
decided_each_below P d (suc n) = decided_as there (λ f. (f n (omega arith), (λ k h. f k (omega (arith, h))))) (decided_both (d n) (decided_each_below P d n))
  where
    there : P n × ((k : ℕ) → k < n → P k) → (k : ℕ) → k < suc n → P k
    there both k h = elim (k == n) as (λ b. (k == n) ≡ b → P k) [
      | true ↦ λ e. subst P (sym (eqb-true k n e)) both.0
      | false ↦ λ e. let apart = eqb-false k n e in both.1 k (omega (arith, h, apart))
    ] refl

module _ {A : Type 0} (eq : A → A → Bool) where
  -- what holds of all of a list holds of each that the test finds there
  pub all_found : ((x y : A) → eq x y ≡ true → x ≡ y) → (P : A → Type 0) (xs : List A) → AllByRecursion P xs → (x : A) → list_any (eq x) xs ≡ true → P x
  all_found same P [] h x k = cc
  all_found same P (y ∷ xs) h x k = elim (or_cases (eq x y) (list_any (eq x) xs) k) [
    | inl here ↦ subst P (sym (same x y here)) h.0
    | inr there ↦ all_found same P xs h.1 x there
  ]

  -- and the other way round
  pub found_all : ((x : A) → eq x x ≡ true) → (P : A → Type 0) (xs : List A) → ((x : A) → list_any (eq x) xs ≡ true → P x) → AllByRecursion P xs
  found_all itself P [] h = tt
  found_all itself P (y ∷ xs) h = (h y (or_left _ _ (itself y)), found_all itself P xs (λ x k. h x (or_right _ _ k)))
