-- Pairs that aren't ordered yet grow fewer.
use Rattle.std.proofs.Common.{⊎_elim, ℕ, zero, suc, cond, ◌<◌, ◌≤◌, Bool, true, false, refl, subst, arith}
use Rattle.std.specs.Prelude.{IsTrue}
use Rattle.std.proofs.lemmas.Bool.{cases_eq}
use Rattle.repair.specs.Steps.{not_behind, unordered}

-- where a test implies another, the other fails no more often
one_at_most : (p q : Bool) → (IsTrue p → IsTrue q) → cond q 0 1 ≤ cond p 0 1
one_at_most p true h = omega arith
one_at_most false false h = omega arith
one_at_most true false h = let e = h refl in cc

-- and where it doesn't hold and the other does, that one fails less often
one_less : (p q : Bool) → (IsTrue p → ⊥) → IsTrue q → cond q 0 1 < cond p 0 1
one_less true q h k = absurd (h refl)
one_less false true h k = omega arith
one_less false false h k = cc

module _ (before other : ℕ → ℕ → Bool) (sub : (a b : ℕ) → IsTrue (before a b) → IsTrue (other a b)) where
  -- where more pairs are ordered, no more numbers are left that don't come after one
  row_at_most : (a m : ℕ) → not_behind other a m ≤ not_behind before a m
  row_at_most a zero = omega arith
  row_at_most a (suc m) = let e = one_at_most (before a m) (other a m) (sub a m) in let f = row_at_most a m in omega arith

  -- and no more pairs are left that aren't ordered
  all_at_most : (m n : ℕ) → unordered other m n ≤ unordered before m n
  all_at_most m zero = omega arith
  all_at_most m (suc n) = let e = row_at_most n m in let f = all_at_most m n in omega arith

  module _ (a b : ℕ) (fresh : IsTrue (before a b) → ⊥) (told : IsTrue (other a b)) where
    -- where one newly comes after a number, fewer are left that don't
    row_less : (m : ℕ) → b < m → not_behind other a m < not_behind before a m
    row_less zero l = absurd (omega (arith, l))
    row_less (suc m) l =
        ⊎_elim
        (λ e.
        let f : cond (other a m) 0 1 < cond (before a m) 0 1 = subst (λ (v : ℕ). cond (other a v) 0 1 < cond (before a v) 0 1) e (one_less (before a b) (other a b) fresh told) in
        let g = row_at_most a m in omega arith)
        (λ ne. let f = one_at_most (before a m) (other a m) (sub a m) in let g = row_less m (omega (arith, l, ne)) in omega arith)
        (cases_eq b m)

    -- and fewer pairs are left then
    pub fewer_unordered : (m n : ℕ) → b < m → a < n → unordered other m n < unordered before m n
    fewer_unordered m zero l h = absurd (omega (arith, h))
    fewer_unordered m (suc n) l h =
        ⊎_elim
        (λ e.
        let f : not_behind other n m < not_behind before n m = subst (λ (v : ℕ). not_behind other v m < not_behind before v m) e (row_less m l) in
        let g = all_at_most m n in omega arith)
        (λ ne. let f = row_at_most n m in let g = fewer_unordered m n l (omega (arith, h, ne)) in omega arith)
        (cases_eq a n)
