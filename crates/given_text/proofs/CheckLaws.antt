-- Tests of links and folders.
use Rattle.std.proofs.Common.{◌≡◌, ◌↔◌, ◌⊎◌, inl, inr, ℕ, Bool, true, false, true≢false, List, [], ◌∷◌, ◌++◌, append-nil, sym, ◌∙◌}
use Rattle.std.specs.Prelude.{IsTrue}
use Rattle.fs_semantics.specs.FileTree.{Path, path_eq}
use Rattle.fs_semantics.proofs.Trees.{path_eq_word}
use Rattle.fs_semantics.specs.Disjoint.{IsAncestor}
use Rattle.given_links.specs.Links.{IsWithin}

-- a path is another or below it exactly where the two are the same or the other is above it
pub within_where : (p q : Path) → IsWithin p q ↔ ((p ≡ q) ⊎ IsAncestor q p)
within_where p q = ((λ w. at w.0 w.1), back)
  where
    some : (s : List ℕ) (more : Path) → ◌≡◌ {A = Path} (s ∷ more) [] → ⊥
    some s more e = cc

    at : (more : Path) → p ≡ q ++ more → (p ≡ q) ⊎ IsAncestor q p
    at [] e = inl (e ∙ append-nil q)
    at (s ∷ more) e = inr (s ∷ more, (λ n. some s more n), e)

    back : (p ≡ q) ⊎ IsAncestor q p → IsWithin p q
    back (inl e) = ([], e ∙ sym (append-nil q))
    back (inr a) = (a.0, a.2)

-- a path is another one, as a test tells
pub same_within : (p q : Path) (same : Bool) → same ≡ true → same ≡ path_eq p q → IsTrue same ↔ IsWithin p q
same_within p q same is told = ((λ h. (within_where p q).1 (inl ((path_eq_word p q).0 (sym told ∙ h)))), (λ w. is))

-- it isn't, and lies below it or doesn't
pub below_within : (p q : Path) (same below : Bool) → same ≡ false → same ≡ path_eq p q → IsTrue below ↔ IsAncestor q p → IsTrue below ↔ IsWithin p q
below_within p q same below is told tells = (
  (λ h. (within_where p q).1 (inr (tells.0 h))),
  (λ w. elim ((within_where p q).0 w) [
    | inl e ↦ absurd (true≢false (sym ((path_eq_word p q).1 e) ∙ (sym told ∙ is)))
    | inr a ↦ tells.1 a
  ]),
)
