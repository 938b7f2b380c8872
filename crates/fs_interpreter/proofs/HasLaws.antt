-- Numbers in lists.
use Rattle.std.proofs.Common.{◌≡◌, ℕ, zero, suc, ◌<◌, ◌==◌, Bool, true, false, List, [], ◌∷◌, ◌++◌, length, Some, refl, sym, ap, subst, ◌∙◌, arith, eqb-true}
use Rattle.std.proofs.lemmas.Bool.{eqb-false}
use Rattle.std.specs.Prelude.{◌||◌, slice_get, slice_index_or, Result, Ok, Err, IfOk}
use Rattle.std.specs.List.{AllByRecursion, Contains}
use Rattle.std.specs.List.Sorted.{IsPermutation}
use Rattle.std.proofs.lemmas.List.Sorted.{Contains-permutation}
use Rattle.fs_interpreter.specs.Places.{has}
use Rattle.fs_interpreter.proofs.StepLaws.{has_append}
use Rattle.std.proofs.Math.Bool.{or-false}

-- a number is itself
pub same_number : (n : ℕ) → (n == n) ≡ true
same_number n = elim (n == n) as (λ b. (n == n) ≡ b → b ≡ true) [ true ↦ λ k. refl | false ↦ λ k. absurd (eqb-false n n k refl) ] refl

-- what stands at a place of a list is in it
pub has_at : (xs : List ℕ) (k i : ℕ) → slice_get xs k ≡ Some i → has i xs ≡ true
has_at [] k i h = cc
has_at (x ∷ xs) zero i h = let same : i ≡ x = cc in ap (λ b. b || has i xs) (ap (λ n. i == n) (sym same) ∙ same_number i)
has_at (x ∷ xs) (suc k) i h = elim (i == x) as (λ b. (b || has i xs) ≡ true) [ true ↦ refl | false ↦ has_at xs k i h ]

-- one that is there already adds nothing
pub has_already : (xs : List ℕ) (i j : ℕ) → has i xs ≡ true → has j xs ≡ (has j xs || (j == i))
has_already xs i j h = elim (j == i) as (λ b. (j == i) ≡ b → has j xs ≡ (has j xs || b)) [
  | true ↦ λ e. (let there : has j xs ≡ true = ap (λ n. has n xs) (eqb-true j i e) ∙ h in there ∙ sym (ap (λ b. b || true) there))
  | false ↦ λ e. sym (or-false (has j xs))
] refl

-- a number is in a list with one more exactly where it was there, or is that one
pub has_snoc : (xs : List ℕ) (i j : ℕ) → has j (xs ++ i ∷ []) ≡ (has j xs || (j == i))
has_snoc xs i j = has_append j xs (i ∷ []) ∙ ap (λ b. has j xs || b) (or-false (j == i))

-- what holds of all numbers of a list holds of each that is in it
pub has_all : (P : ℕ → Type 0) (xs : List ℕ) (j : ℕ) → AllByRecursion P xs → has j xs ≡ true → P j
has_all P [] j all h = cc
has_all P (x ∷ xs) j all h = elim (j == x) as (λ b. (j == x) ≡ b → (b || has j xs) ≡ true → P j) [
  | true ↦ λ e k. subst P (sym (eqb-true j x e)) all.0
  | false ↦ λ e k. has_all P xs j all.1 k
] refl h

-- what holds of each number that is in a list holds of all
pub all_has : (P : ℕ → Type 0) (xs : List ℕ) → ((j : ℕ) → has j xs ≡ true → P j) → AllByRecursion P xs
all_has P [] h = tt
all_has P (x ∷ xs) h = (h x (ap (λ b. b || has x xs) (same_number x)), all_has P xs (λ j k. h j (later j (j == x) k)))
  where
    later : (j : ℕ) (b : Bool) → has j xs ≡ true → (b || has j xs) ≡ true
    later j true k = refl
    later j false k = k

-- a number that is in a list stands there
has_contains : (xs : List ℕ) (j : ℕ) → has j xs ≡ true → Contains xs j
has_contains [] j h = cc
has_contains (x ∷ xs) j h = elim (j == x) as (λ b. (j == x) ≡ b → (b || has j xs) ≡ true → Contains (x ∷ xs) j) [
  | true ↦ λ e k. (0, omega arith, sym (eqb-true j x e))
  | false ↦ λ e k. (let c = has_contains xs j k in (suc c.0, omega (arith, c.1), c.2))
] refl h

-- and one that stands there is in the list
contains_has : (xs : List ℕ) (j k : ℕ) → k < length xs → slice_index_or xs k j ≡ j → has j xs ≡ true
contains_has [] j k h e = absurd (omega arith)
contains_has (x ∷ xs) j zero h e = ap (λ b. b || has j xs) (ap (λ n. j == n) e ∙ same_number j)
contains_has (x ∷ xs) j (suc k) h e = let there = contains_has xs j k (omega arith) e in elim (j == x) as (λ b. (b || has j xs) ≡ true) [ true ↦ refl | false ↦ there ]

-- another order has the same numbers
pub has_moved : (xs ys : List ℕ) (j : ℕ) → IsPermutation xs ys → has j xs ≡ true → has j ys ≡ true
has_moved xs ys j p h = let c = Contains-permutation xs ys j p (has_contains xs j h) in contains_has ys j c.0 c.1 c.2

-- what follows from a property of an Ok result holds of it
pub if_ok : {X E : Type 0} (P Q : X → Type 0) (r : Result X E) → ((x : X) → P x → Q x) → IfOk r P → IfOk r Q
if_ok P Q (Ok x) f h = f x h
if_ok P Q (Err e) f h = tt
