-- Fronts of paths, and their texts.
use Rattle.std.proofs.Common.{◌≡◌, ℕ, zero, suc, ◌-◌, List, [], ◌∷◌, ◌++◌, length, take, refl, ap, ◌∙◌, arith}
use Rattle.std.specs.List.{AllByRecursion}
use Rattle.fs_semantics.specs.FileTree.{Path, IsSegment, parent}

-- all but the last segment of a path are its parent
front_is : (s : List ℕ) (p : Path) → take (length p) (s ∷ p) ≡ parent (s ∷ p)
front_is s [] = refl
front_is s (r ∷ p) = ap (λ q. s ∷ q) (front_is r p)

-- the parent of a path is the path without its last segment
pub parent_is_front : (p : Path) → take (length p - 1) p ≡ parent p
parent_is_front [] = refl
parent_is_front (s ∷ p) = let one_less : length (s ∷ p) - 1 ≡ length p = omega arith in ap (λ n. take n (s ∷ p)) one_less ∙ front_is s p

-- a front of a path that is made of segments is so too
pub front_proper : (n : ℕ) (p : Path) → AllByRecursion IsSegment p → AllByRecursion IsSegment (take n p)
front_proper zero p all = tt
front_proper (suc n) [] all = tt
front_proper (suc n) (s ∷ p) all = (all.0, front_proper n p all.1)

-- and a path with a segment more is so
pub child_proper : (p : Path) (s : List ℕ) → AllByRecursion IsSegment p → IsSegment s → AllByRecursion IsSegment (p ++ s ∷ [])
child_proper [] s all is = (is, tt)
child_proper (r ∷ p) s all is = (all.0, child_proper p s all.1 is)
