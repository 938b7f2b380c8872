-- Paths of which none is another one or above it.
use Rattle.std.specs.Prelude.{◌≡◌, ◌≢◌, List, [], ◌∷◌, ◌++◌}
use Rattle.std.specs.List.{AllByRecursion}
use Rattle.fs_semantics.specs.FileTree.{Path}

-- p is a proper prefix of q
abbrev pub IsAncestor : Path → Path → Type 0
IsAncestor p q = (more : Path) × (more ≢ []) × (q ≡ p ++ more)

-- what lies at and below p has nothing in common with what lies at and below q
pub record IsDisjointFrom (p q : Path) : Type 0 where
  pub differ : p ≢ q
  pub not_above : IsAncestor p q → ⊥
  pub not_below : IsAncestor q p → ⊥

-- each is disjoint from those after it
abbrev pub AreDisjoint : List Path → Type 0
AreDisjoint [] = Unit {0}
AreDisjoint (p ∷ ps) = AllByRecursion (IsDisjointFrom p) ps × AreDisjoint ps
