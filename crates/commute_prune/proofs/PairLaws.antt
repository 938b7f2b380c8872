-- The pairs are just those that pass the test.
use Rattle.std.proofs.Common.{◌≡◌, ℕ, zero, suc, ◌<◌, ◌≤◌, Bool, true, false, [], ◌∷◌, inl, inr, refl, subst, arith, nat_lt, ltb-true, ltb-false}
use Rattle.std.specs.Prelude.{IsTrue}
use Rattle.std.specs.List.{Contains}
use Rattle.std.proofs.lemmas.List.Elements.{Contains-append_left, Contains-append_right, Contains-append_cases}
use Rattle.commute_prune.specs.Pairs.{pair_if, row_of, pairs_of}

-- the pair is of one of the first n and one of the first m, and passes the test
pub record IsPair (test : ℕ → ℕ → Bool) (m n : ℕ) (e : ℕ × ℕ) : Type 0 where
  pub left : e.0 < n
  pub right : e.1 < m
  pub passes : IsTrue (test e.0 e.1)

-- nothing is in the empty list
none_in : (e : ℕ × ℕ) → Contains [] e → ⊥
none_in e h = omega (arith, h.1)

-- what is in a list of one is that one
one_in : (i j : ℕ) (e : ℕ × ℕ) → Contains ((i, j) ∷ []) e → (i, j) ≡ e
one_in i j e (zero, h, at) = at
one_in i j e (suc k, h, at) = absurd (omega (arith, h))

module _ (test : ℕ → ℕ → Bool) where
  -- a pair that was put there passes the test
  pair_from : (t : Bool) (i j m n : ℕ) (e : ℕ × ℕ) → test i j ≡ t → i < n → j < m → Contains (pair_if t i j) e → IsPair test m n e
  pair_from true i j m n e is left right h = subst (IsPair test m n) (one_in i j e h) (record { left = left; right = right; passes = is })
  pair_from false i j m n e is left right h = absurd (none_in e h)

  -- a pair of some numbers is one of more
  wider : (m k n l : ℕ) (e : ℕ × ℕ) → m ≤ k → n ≤ l → IsPair test m n e → IsPair test k l e
  wider m k n l e h g p = let left = p.left in let right = p.right in record { left = omega (arith, left, g); right = omega (arith, right, h); passes = p.passes }

  -- a pair of a row passes the test
  row_from : (i m n : ℕ) (e : ℕ × ℕ) → i < n → Contains (row_of test i m) e → IsPair test m n e
  row_from i zero n e less h = absurd (none_in e h)
  row_from i (suc j) n e less h = elim (Contains-append_cases (row_of test i j) (pair_if (test i j) i j) e h) [
    | inl k ↦ wider j (suc j) n n e (omega arith) (omega arith) (row_from i j n e less k)
    | inr k ↦ pair_from (test i j) i j (suc j) n e refl less (omega arith) k
  ]

  -- a pair of the list passes the test
  pub pairs_from : (m n : ℕ) (e : ℕ × ℕ) → Contains (pairs_of test m n) e → IsPair test m n e
  pairs_from m zero e h = absurd (none_in e h)
  pairs_from m (suc i) e h = elim (Contains-append_cases (pairs_of test m i) (row_of test i m) e h) [
    | inl k ↦ wider m m i (suc i) e (omega arith) (omega arith) (pairs_from m i e k)
    | inr k ↦ row_from i m (suc i) e (omega arith) k
  ]

  -- a pair that passes the test is put there
  pair_in : (t : Bool) (i j : ℕ) → IsTrue t → Contains (pair_if t i j) (i, j)
  pair_in true i j h = (0, omega arith, refl)
  pair_in false i j h = cc

  -- and is in its row
  row_in : (i m j : ℕ) → j < m → IsTrue (test i j) → Contains (row_of test i m) (i, j)
  row_in i zero j less h = absurd (omega (arith, less))
  row_in i (suc k) j less h = elim (nat_lt j k) as (λ b. nat_lt j k ≡ b → Contains (row_of test i (suc k)) (i, j)) [
    | true ↦ λ e. Contains-append_left (row_of test i k) (pair_if (test i k) i k) (i, j) (row_in i k j (ltb-true j k e) h)
    | false ↦ λ e.
        let same : j ≡ k = omega (arith, less, ltb-false j k e) in
        Contains-append_right (row_of test i k) (pair_if (test i k) i k) (i, j) (subst (λ l. Contains (pair_if (test i l) i l) (i, j)) same (pair_in (test i j) i j h))
  ] refl

  -- and is in the list
  pub pairs_in : (m n i j : ℕ) → i < n → j < m → IsTrue (test i j) → Contains (pairs_of test m n) (i, j)
  pairs_in m zero i j less right h = absurd (omega (arith, less))
  pairs_in m (suc k) i j less right h = elim (nat_lt i k) as (λ b. nat_lt i k ≡ b → Contains (pairs_of test m (suc k)) (i, j)) [
    | true ↦ λ e. Contains-append_left (pairs_of test m k) (row_of test k m) (i, j) (pairs_in m k i j (ltb-true i k e) right h)
    | false ↦ λ e.
        let same : i ≡ k = omega (arith, less, ltb-false i k e) in
        Contains-append_right (pairs_of test m k) (row_of test k m) (i, j) (subst (λ l. Contains (row_of test l m) (i, j)) same (row_in i m j right h))
  ] refl
