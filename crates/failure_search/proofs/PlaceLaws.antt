-- Fronts of orders.
use Rattle.std.proofs.Common.{◌≡◌, ◌⊎◌, inl, inr, ℕ, zero, suc, ◌+◌, ◌<◌, List, [], ◌∷◌, ◌++◌, length, take, drop, Some, None, refl, sym, ap, ◌∙◌, arith}
use Rattle.std.specs.Prelude.{slice_index_or}
use Rattle.std.specs.List.{AllByRecursion}
use Rattle.fs_semantics.specs.FileTree.{Tree}
use Rattle.fs_semantics.specs.Programs.{Program, Id, and_then, run}
use Rattle.fs_semantics.specs.Orders.{outcome}
use Rattle.failure_semantics.specs.Failures.{Failure, FailsAt}
use Rattle.failure_semantics.specs.Orders.{OrderFailsAt}
use Rattle.failure_semantics.proofs.Found.{ended}

-- what holds of all numbers of a list holds of all of its fronts
pub all_ahead : (P : ℕ → Type 0) (xs : List ℕ) (k : ℕ) → AllByRecursion P xs → AllByRecursion P (take k xs)
all_ahead P xs zero h = tt
all_ahead P [] (suc k) h = tt
all_ahead P (x ∷ xs) (suc k) h = (h.0, all_ahead P xs k h.1)

-- the whole list is its longest front
pub take_whole : (xs : List ℕ) → take (length xs) xs ≡ xs
take_whole [] = refl
take_whole (x ∷ xs) = ap (λ ys. x ∷ ys) (take_whole xs)

module _ (es : List Program) where
  -- the program with this number
  abbrev at : ℕ → Program
  at i = slice_index_or es i Id

  -- where a front ends in a tree and the next longer one in Error, the program behind it does so from that tree
  pub next_fails : (order : List ℕ) (t u : Tree) (k : ℕ) → k < length order → outcome es (take k order) t ≡ Some u → outcome es (take (suc k) order) t ≡ None
      → run (at (slice_index_or order k 0)) u ≡ None
  next_fails [] t u k b h e = absurd (omega (arith, b))
  next_fails (i ∷ order) t u zero b h e = elim (ended (run (at i) t)) [
    | inl fails ↦ let same : t ≡ u = cc in ap (run (at i)) (sym same) ∙ fails
    | inr w ↦ let some = sym (ap (λ o. and_then o (outcome es [])) w.1) ∙ e in cc
  ]
  next_fails (i ∷ order) t u (suc k) b h e = elim (ended (run (at i) t)) [
    | inl fails ↦ let gone = sym (ap (λ o. and_then o (outcome es (take k order))) fails) ∙ h in cc
    | inr w ↦ next_fails order w.0 u k (omega (arith, b)) (sym (ap (λ o. and_then o (outcome es (take k order))) w.1) ∙ h) (sym (ap (λ o. and_then o (outcome es (take (suc k) order))) w.1) ∙ e)
  ]

  -- a list is what stands ahead of a place, the number there, and what stands behind it
  split_at : (order : List ℕ) (k : ℕ) → k < length order → order ≡ take k order ++ slice_index_or order k 0 ∷ drop (suc k) order
  split_at [] k b = absurd (omega (arith, b))
  split_at (i ∷ order) zero b = refl
  split_at (i ∷ order) (suc k) b = ap (λ o. i ∷ o) (split_at order k (omega (arith, b)))

  -- the order fails at the place whose program does
  pub fails_at : (order : List ℕ) (t u : Tree) (k i : ℕ) (f : Failure) → k < length order → i ≡ slice_index_or order k 0 → outcome es (take k order) t ≡ Some u → FailsAt (at i) u f
      → OrderFailsAt es order t i f
  fails_at order t u k i f b same ends fails = record {
    front = take k order;
    back = drop (suc k) order;
    reached = u;
    was = split_at order k b ∙ ap (λ j. take k order ++ j ∷ drop (suc k) order) (sym same);
    ends = ends;
    fails = fails;
  }

  -- an order that ends in Error has a number
  pub long_enough : (order : List ℕ) (t : Tree) → outcome es order t ≡ None → 0 < length order
  long_enough [] t h = cc
  long_enough (i ∷ order) t h = omega arith

-- what holds of all numbers of a list holds of the one at a place
pub all_at : (P : ℕ → Type 0) (xs : List ℕ) (k : ℕ) → AllByRecursion P xs → k < length xs → P (slice_index_or xs k 0)
all_at P [] k h b = absurd (omega (arith, b))
all_at P (x ∷ xs) zero h b = h.0
all_at P (x ∷ xs) (suc k) h b = all_at P xs k h.1 (omega (arith, b))
