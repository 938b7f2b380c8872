-- Lists with one more at their end, and from a place on.
use Rattle.std.proofs.Common.{◌≡◌, ℕ, zero, suc, ◌+◌, ◌<◌, List, [], ◌∷◌, ◌++◌, length, get_or, drop, slice_get, Some, refl, sym, ap, ◌∙◌, arith, add-one, drop-cons}
use Rattle.std.specs.List.{AllByRecursion}

-- what holds of some and of one more holds of all
pub all_last : {X : Type 0} (P : X → Type 0) (xs : List X) (x : X) → AllByRecursion P xs → P x → AllByRecursion P (xs ++ x ∷ [])
all_last P [] x h k = (k, tt)
all_last P (y ∷ xs) x h k = (h.0, all_last P xs x h.1 k)

-- a list from a place on begins with what stands there
pub drop_step : {X : Type 0} (xs : List X) (i : ℕ) (d x : X) → i < length xs → x ≡ get_or xs i d → drop i xs ≡ x ∷ drop (i + 1) xs
drop_step xs i d x h e = drop-cons xs i d h ∙ (λ t. sym e t ∷ drop (suc i) xs) ∙ ap (λ n. x ∷ drop n xs) (sym (add-one i))

-- the last of a list stands at its length
pub get_last : {X : Type 0} (front : List X) (x : X) → slice_get (front ++ x ∷ []) (length front) ≡ Some x
get_last [] x = refl
get_last (y ∷ front) x = get_last front x
