-- Marks of places.
use Rattle.std.proofs.Common.{◌≡◌, ◌≢◌, ◌⊎◌, inl, inr, ℕ, zero, suc, ◌<◌, Bool, true, false, ◌||◌, ◌==◌, List, [], ◌∷◌, ◌++◌, length, get_or, refl, ap, sym, ◌∙◌}
use Rattle.std.proofs.lemmas.Bool.Decides.{eqb_tells}
use Rattle.std.proofs.lemmas.List.{get_or-set_same, get_or-set_other}
use Rattle.std.specs.Prelude.{slice_set}
use Rattle.std.specs.List.{list_any}
use Rattle.pp_declaration_state.specs.Marking.{AreMarked}
use Rattle.std.proofs.Math.Bool.{or-false, or-true}

-- one more mark that isn't set
pub unset_last : (marks : List Bool) (i : ℕ) → get_or (marks ++ false ∷ []) i false ≡ get_or marks i false
unset_last [] zero = refl
unset_last [] (suc i) = refl
unset_last (m ∷ marks) zero = refl
unset_last (m ∷ marks) (suc i) = unset_last marks i

-- one more mark that isn't set marks no other place
pub still_marked : (marks new : List Bool) (places : List ℕ) → new ≡ marks ++ false ∷ [] → AreMarked marks places → AreMarked new places
still_marked marks new places e h place = ap (λ ms. get_or ms place false) e ∙ (unset_last marks place ∙ h place)

-- a disjunction of three may be grouped either way
pub or_assoc : (a b c : Bool) → (a || (b || c)) ≡ ((a || b) || c)
or_assoc true b c = refl
or_assoc false b c = refl

-- one more place may be the one that passes
any_last : (f : ℕ → Bool) (places : List ℕ) (p : ℕ) → list_any f (places ++ p ∷ []) ≡ (list_any f places || f p)
any_last f [] p = or-false (f p)
any_last f (q ∷ places) p = ap (λ b. f q || b) (any_last f places p) ∙ or_assoc (f q) (list_any f places) (f p)

-- setting a mark marks that place too
pub marked_last : (marks : List Bool) (places : List ℕ) (p : ℕ) → AreMarked marks places → p < length marks → AreMarked (slice_set marks p true) (places ++ p ∷ [])
marked_last marks places p are within j = pick (eqb_tells j p) ∙ sym (any_last (λ k. j == k) places p)
  where
    pick : ((j == p) ≡ true) × (j ≡ p) ⊎ ((j == p) ≡ false) × (j ≢ p) → get_or (slice_set marks p true) j false ≡ (list_any (λ k. j == k) places || (j == p))
    pick (inl x) =
        ap (λ k. get_or (slice_set marks p true) k false) x.1
        ∙ (get_or-set_same marks p true false within
        ∙ sym (ap (λ b. list_any (λ k. j == k) places || b) x.0 ∙ or-true (list_any (λ k. j == k) places)))
    pick (inr x) =
        get_or-set_other marks p j true false x.1
        ∙ (are j ∙ sym (ap (λ b. list_any (λ k. j == k) places || b) x.0 ∙ or-false (list_any (λ k. j == k) places)))
