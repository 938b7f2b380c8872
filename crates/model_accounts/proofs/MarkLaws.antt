-- The marks of groups, one list after another.
use Rattle.std.proofs.Common.{◌≡◌, ℕ, List, [], ◌∷◌, ◌++◌, codes, refl, sym, ap, ◌∙◌}
use Rattle.std.specs.Prelude.{Result, Ok, Err}
use Rattle.fs_semantics.specs.FileTree.{Path}
use Rattle.model_semantics.specs.declared.kinds.Cause.{Cause}
use Rattle.model_semantics.specs.Names.{◌>>=◌, mark_named, group_marks}

-- marks behind others
abbrev pub behind : List Path → Result (List Path) Cause → Result (List Path) Cause
behind front marks = marks >>= (λ ms. Ok (front ++ ms))

-- one mark ahead of marks behind others is one ahead of those others
behind_first : (m : Path) (front : List Path) (r : Result (List Path) Cause) → (behind front r >>= (λ ms. Ok (m ∷ ms))) ≡ behind (m ∷ front) r
behind_first m front (Ok ms) = refl
behind_first m front (Err c) = refl

-- marks behind none are these marks
pub behind_none : (r : Result (List Path) Cause) → behind [] r ≡ r
behind_none (Ok ms) = refl
behind_none (Err c) = refl

-- the marks of two lists of names are those of the one and then those of the other
pub both : (a b : List (List ℕ)) → group_marks (a ++ b) ≡ (group_marks a >>= (λ ms. behind ms (group_marks b)))
both [] b = sym (behind_none (group_marks b))
both (name ∷ a) b = ap (λ r. mark_named (codes "group") name >>= (λ m. r >>= (λ ms. Ok (m ∷ ms)))) (both a b) ∙ at (mark_named (codes "group") name) (group_marks a)
  where
    inner : (m : Path) (r : Result (List Path) Cause) → ((r >>= (λ ms. behind ms (group_marks b))) >>= (λ ms. Ok (m ∷ ms))) ≡ ((r >>= (λ ms. Ok (m ∷ ms))) >>= (λ ms. behind ms (group_marks b)))
    inner m (Ok ms) = behind_first m ms (group_marks b)
    inner m (Err c) = refl

    at : (o : Result Path Cause) (r : Result (List Path) Cause)
        → (o >>= (λ m. (r >>= (λ ms. behind ms (group_marks b))) >>= (λ ms. Ok (m ∷ ms)))) ≡ ((o >>= (λ m. r >>= (λ ms. Ok (m ∷ ms)))) >>= (λ ms. behind ms (group_marks b)))
    at (Ok m) r = inner m r
    at (Err c) r = refl

-- ---- marks that are added

-- some marks were added, and these names are left of all
abbrev pub AreAdded : List (List ℕ) → List (List ℕ) → List Path → List Path → Type 0
AreAdded rest all old new = (front : List Path) × (new ≡ old ++ front) × (group_marks all ≡ behind front (group_marks rest))
