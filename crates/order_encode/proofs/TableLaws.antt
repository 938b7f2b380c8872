-- A table made again, path by path and content by content.
use Rattle.std.proofs.Common.{◌≡◌, ℕ, zero, suc, ◌+◌, ◌<◌, List, [], ◌∷◌, ◌++◌, take, Option, Some, None, slice_get, refl, ap, ◌∙◌, arith}
use Rattle.fs_interpreter.specs.Places.{or_added}

-- what stands in a front stands in the list, at a place within the front
front_get : {X : Type 0} (i : ℕ) (xs : List X) (j : ℕ) (x : X) → slice_get (take i xs) j ≡ Some x → (j < i) × (slice_get xs j ≡ Some x)
front_get zero xs j x e = cc
front_get (suc i) [] j x e = cc
front_get (suc i) (y ∷ xs) zero x e = (omega arith, e)
front_get (suc i) (y ∷ xs) (suc j) x e = let rest = front_get i xs j x e in (omega (arith, rest.0), rest.1)

-- and what stands in the list within the front stands in the front
pub get_front : {X : Type 0} (i : ℕ) (xs : List X) (j : ℕ) (x : X) → j < i → slice_get xs j ≡ Some x → slice_get (take i xs) j ≡ Some x
get_front zero xs j x h e = absurd (omega (arith, h))
get_front (suc i) [] j x h e = e
get_front (suc i) (y ∷ xs) zero x h e = e
get_front (suc i) (y ∷ xs) (suc j) x h e = get_front i xs j x (omega (arith, h)) e

-- a front with the next one is one longer
one_more : {X : Type 0} (i : ℕ) (xs : List X) (x : X) → slice_get xs i ≡ Some x → take i xs ++ x ∷ [] ≡ take (i + 1) xs
one_more i [] x e = cc
one_more zero (y ∷ xs) x e = let same : x ≡ y = cc in ap (λ z. z ∷ []) same
one_more (suc i) (y ∷ xs) x e =
    let further : suc (i + 1) ≡ suc i + 1 = omega arith in
    ap (λ ys. y ∷ ys) (one_more i xs x e) ∙ ap (λ n. take n (y ∷ xs)) further

-- what isn't there yet comes last
pub added : {X : Type 0} (xs : List X) (i : ℕ) (x : X) (place : Option ℕ) → ((j : ℕ) → place ≡ Some j → slice_get (take i xs) j ≡ Some x)
    → ((j k : ℕ) (y : X) → slice_get xs j ≡ Some y → slice_get xs k ≡ Some y → j ≡ k) → slice_get xs i ≡ Some x → or_added place (take i xs) x ≡ take (i + 1) xs
added xs i x None found once at = one_more i xs x at
added xs i x (Some j) found once at =
    let there = front_get i xs j x (found j refl) in
    let same = once j i x there.1 at in
    absurd (omega (arith, there.0, same))
