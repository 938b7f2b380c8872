-- Places of a list, and what stands there.
use Rattle.std.proofs.Common.{◌≡◌, ℕ, zero, suc, ◌+◌, ◌<◌, List, [], ◌∷◌, ◌++◌, Bool, true, false, cond, ◌&&◌, length, get_or, drop, sym, ap, ◌∙◌, Option, Some, None, arith, append_assoc}
use Rattle.std.specs.Prelude.{slice_get, not}
use Rattle.std.proofs.lemmas.List.{drop_more}
use Rattle.catalog_semantics.specs.declared.catalog.Resource.{Resource}
use Rattle.catalog_semantics.specs.Catalogs.{is_plain_sort}
use Rattle.graph_semantics.specs.Graphs.{plain_from}
use Rattle.std.proofs.lemmas.Option.{same_Some}

-- what is got from a place stands there
pub at_place : {X : Type 0} (xs : List X) (i : ℕ) (x : X) → slice_get xs i ≡ Some x → (i < length xs) × (x ≡ get_or xs i x)
at_place [] i x h = absurd (none_some x h) where
  none_some : {X : Type 0} (x : X) → ◌≡◌ {A = Option X} None (Some x) → ⊥
  none_some x h = cc
at_place (y ∷ xs) zero x h = (omega arith, sym (same_Some y x h))
at_place (y ∷ xs) (suc i) x h = let rest = at_place xs i x h in (omega (arith, rest.0), rest.1)

-- the rest begins with what stands at the place
pub rest_at : {X : Type 0} (xs : List X) (i : ℕ) (x : X) → slice_get xs i ≡ Some x → drop i xs ≡ x ∷ drop (i + 1) xs
rest_at xs i x h = let at = at_place xs i x h in drop_more xs i x at.0 ∙ ap (λ y. y ∷ drop (i + 1) xs) (sym at.1)

-- one more resource among those whose places are kept
plain_with : (n : ℕ) (places rest : List ℕ) (t : Bool) (w : List ℕ) → places ++ cond t (n ∷ rest) rest ≡ w → cond t (places ++ n ∷ []) places ++ rest ≡ w
plain_with n places rest true w h = append_assoc places (n ∷ []) rest ∙ h
plain_with n places rest false w h = h

-- one more resource keeps its place, if it is a real plain one
pub plain_more : (resources : List Resource) (n : ℕ) (r : Resource) (places w : List ℕ) → slice_get resources n ≡ Some r
    → places ++ plain_from n (drop n resources) ≡ w
    → cond (is_plain_sort r.sort && not r.is_virtual) (places ++ n ∷ []) places ++ plain_from (n + 1) (drop (n + 1) resources) ≡ w
plain_more resources n r places w h before =
    plain_with n places (plain_from (n + 1) (drop (n + 1) resources)) (is_plain_sort r.sort && not r.is_virtual) w
    (sym (ap (λ rs. places ++ plain_from n rs) (rest_at resources n r h)) ∙ before)
