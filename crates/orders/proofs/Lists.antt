-- Lists of nodes, round one place.
use Rattle.std.proofs.Common.{◌≡◌, ◌≢◌, ℕ, ◌+◌, ◌<◌, ◌≤◌, List, [], ◌∷◌, ◌++◌, refl, sym, ap, ◌∙◌, subst, arith, suc, get_or, take, drop, length}
use Rattle.std.proofs.lemmas.List.{take-append-drop, drop_more}
use Rattle.std.specs.List.{AllByRecursion}
use Rattle.fs_semantics.specs.Orders.{times, NoneAhead}
use Rattle.fs_semantics.proofs.Counts.{times_append, times_itself, times_other, none_ahead_at}

-- a number that stands at no place stands there never
pub times_none : (k : ℕ) (xs : List ℕ) → ((j : ℕ) → j < length xs → get_or xs j 0 ≢ k) → times k xs ≡ 0
times_none k [] h = refl
times_none k (x ∷ xs) h = times_other k x xs (λ e. h 0 (omega arith) (sym e)) ∙ times_none k xs (λ j l. h (suc j) (omega arith))

-- the list round one place
pub split_at : (xs : List ℕ) (i : ℕ) → i < length xs → xs ≡ take i xs ++ get_or xs i 0 ∷ drop (i + 1) xs
split_at xs i h = sym (take-append-drop i xs) ∙ ap (λ ys. take i xs ++ ys) (drop_more xs i 0 h)

-- how often a number stands in a list is counted ahead of a place, and from there on
pub times_split : (k : ℕ) (xs : List ℕ) (i : ℕ) → i < length xs → times k xs ≡ times k (take i xs) + times k (get_or xs i 0 ∷ drop (i + 1) xs)
times_split k xs i h = ap (times k) (split_at xs i h) ∙ times_append k (take i xs) (get_or xs i 0 ∷ drop (i + 1) xs)

-- what stands at a place stands there once at least
pub times_at : (xs : List ℕ) (i : ℕ) → i < length xs → 1 ≤ times (get_or xs i 0) xs
times_at xs i h = omega (arith, times_split (get_or xs i 0) xs i h, times_itself (get_or xs i 0) (drop (i + 1) xs))

-- in an allowed order none that stands behind a place comes before what stands there
pub kept_at : (before : ℕ → ℕ → Type 0) (xs : List ℕ) (i : ℕ) → NoneAhead before xs → i < length xs → AllByRecursion (λ a. before a (get_or xs i 0) → ⊥) (drop (i + 1) xs)
kept_at before xs i h l = none_ahead_at before (take i xs) (get_or xs i 0) (drop (i + 1) xs) (subst (NoneAhead before) (split_at xs i l) h)
