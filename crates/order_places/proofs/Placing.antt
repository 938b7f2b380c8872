-- What stands ahead of a place, at it and the next, and behind.
use Rattle.std.proofs.Common.{◌≡◌, ℕ, zero, suc, ◌+◌, ◌-◌, ◌<◌, ◌≤◌, Bool, List, [], ◌∷◌, ◌++◌, length, take, drop, refl, sym, ap, subst, ◌∙◌, arith}
use Rattle.std.specs.Prelude.{slice_index_or}
use Rattle.fs_semantics.specs.Orders.{Told, IsLinearExtension, IsFree}
use Rattle.order_places.specs.Places.{exchanged, around}
use Rattle.order_places.proofs.Exchanging.{free, skip}
use Rattle.fs_semantics.proofs.Counts.{all_back}

-- the node behind a place is the one at it in the rest
next_at : (j a : ℕ) (order : List ℕ) → slice_index_or (a ∷ order) (suc j + 1) 0 ≡ slice_index_or order (j + 1) 0
next_at j a order = let one : suc j + 1 ≡ suc (j + 1) = omega arith in ap (λ n. slice_index_or (a ∷ order) n 0) one

-- one node more in front
more : (j a : ℕ) (order : List ℕ) (x y : ℕ) → 2 ≤ length order → around (suc j) (a ∷ order) x y ≡ a ∷ around j order x y
more j a [] x y h = absurd (omega (arith, h))
more j a (b ∷ []) x y h = absurd (omega (arith, h))
more j a (b ∷ c ∷ order) x y h =
    let long : length (a ∷ b ∷ c ∷ order) - 2 ≡ suc (length (b ∷ c ∷ order) - 2) = omega arith in
    ap (λ n. take (suc j) (take n (a ∷ b ∷ c ∷ order)) ++ x ∷ y ∷ drop (suc j) (c ∷ order)) long

-- an order is these two of its nodes with what stands around them
pub whole : (j : ℕ) (order : List ℕ) → j + 1 < length order → around j order (slice_index_or order j 0) (slice_index_or order (j + 1) 0) ≡ order
whole j [] h = absurd (omega (arith, h))
whole j (a ∷ []) h = absurd (omega (arith, h))
whole zero (a ∷ b ∷ order) h = refl
whole (suc j) (a ∷ b ∷ order) h =
    let two : 2 ≤ length (b ∷ order) = omega (arith, h) in
    ap (around (suc j) (a ∷ b ∷ order) (slice_index_or (b ∷ order) j 0)) (next_at j a (b ∷ order)) ∙ more j a (b ∷ order) _ _ two ∙ ap (λ xs. a ∷ xs) (whole j (b ∷ order) (omega (arith, h)))

-- with the two the other way round it is the exchanged order
pub other : (j : ℕ) (order : List ℕ) → j + 1 < length order → around j order (slice_index_or order (j + 1) 0) (slice_index_or order j 0) ≡ exchanged j order
other j [] h = absurd (omega (arith, h))
other j (a ∷ []) h = absurd (omega (arith, h))
other zero (a ∷ b ∷ order) h = refl
other (suc j) (a ∷ b ∷ order) h =
    let two : 2 ≤ length (b ∷ order) = omega (arith, h) in
    ap (λ x. around (suc j) (a ∷ b ∷ order) x (slice_index_or (b ∷ order) j 0)) (next_at j a (b ∷ order)) ∙ more j a (b ∷ order) _ _ two ∙ ap (λ xs. a ∷ xs) (other j (b ∷ order) (omega (arith, h))) ∙ sym (skip j a (b ∷ order))

-- two neighbours that stand either way round in allowed orders are free, and are nodes
pub bounded : (n : ℕ) (before : ℕ → ℕ → Bool) (order : List ℕ) (j : ℕ) → j + 1 < length order → IsLinearExtension n (Told before) order → IsLinearExtension n (Told before) (exchanged j order)
    → IsFree (Told before) (slice_index_or order j 0) (slice_index_or order (j + 1) 0) × (slice_index_or order j 0 < n) × (slice_index_or order (j + 1) 0 < n)
bounded n before order j h one two =
    let a = slice_index_or order j 0 in
    let b = slice_index_or order (j + 1) 0 in
    let front = take j (take (length order - 2) order) in
    let back = drop j (drop 2 order) in
    let was = subst (IsLinearExtension n (Told before)) (sym (whole j order h)) one in
    let is = subst (IsLinearExtension n (Told before)) (sym (other j order h)) two in
    let low = all_back (λ k. k < n) front (a ∷ b ∷ back) was.below in
    (free n before front back a b was is, low.0, low.1.0)
