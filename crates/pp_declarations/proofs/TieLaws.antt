-- Ties, one after the other.
use Rattle.std.proofs.Common.{◌≡◌, ℕ, List, [], ◌∷◌, ◌++◌, refl, sym, ap, ◌∙◌, append_assoc, append-nil}
use Rattle.catalog_semantics.specs.declared.state.Side.{Side}
use Rattle.catalog_semantics.specs.declared.state.State.{State}
use Rattle.catalog_semantics.specs.declared.state.Tie.{Tie}
use Rattle.catalog_semantics.specs.States.{tied}
use Rattle.catalog_semantics.specs.Effects.{ties_of}

-- without arrows there are no ties
no_arrows : (at : ℕ) (sides : List Side) → ties_of at sides [] ≡ []
no_arrows at [] = refl
no_arrows at (left ∷ []) = refl
no_arrows at (left ∷ right ∷ sides) = refl

-- and no state is changed
pub none_left : (at : ℕ) (sides : List Side) (s : State) → tied (ties_of at sides []) s ≡ s
none_left at sides s = ap (λ (ties : List Tie). record s { ties = ties }) (ap (λ (ties : List Tie). s.ties ++ ties) (no_arrows at sides) ∙ append-nil s.ties)

-- ties are added one after the other
pub next_tie : (t : Tie) (ties : List Tie) (s : State) → tied (t ∷ ties) s ≡ tied ties (tied (t ∷ []) s)
next_tie t ties s = ap (λ (all : List Tie). record s { ties = all }) (sym (append_assoc s.ties (t ∷ []) ties))
