-- The paths at which two trees differ.
use Rattle.std.specs.Prelude.{◌≡◌, ◌≢◌, ◌⊎◌, List, [], ◌∷◌, Option}
use Rattle.std.specs.declared.cmp.Ordering.TheVariants.{Less}
use Rattle.std.specs.Ordering.{nat_cmp}
use Rattle.std.specs.Cmp.Lexicographic.{slice_cmp}
use Rattle.std.specs.List.{AllByRecursion}
use Rattle.std.specs.FinMap as map
use Rattle.fs_semantics.specs.FileTree.{Path, Entry, Tree}
use Rattle.fs_lang.specs.PathText.{path_text}

-- a path, with what stands there in a first and in a second tree
pub record Difference : Type 0 where
  pub path : Path
  pub first : Option Entry
  pub second : Option Entry

-- that stands there, and isn't the same
pub record IsDifference (t u : Tree) (d : Difference) : Type 0 where
  pub first : map.get t d.path ≡ d.first
  pub second : map.get u d.path ≡ d.second
  pub differ : d.first ≢ d.second

-- the list has the path
abbrev pub Has : List Difference → Path → Type 0
Has [] p = ⊥
Has (d ∷ ds) p = (d.path ≡ p) ⊎ Has ds p

-- the text of the path comes before that of the other, by their bytes
abbrev pub IsBefore : Difference → Difference → Type 0
IsBefore d e = slice_cmp nat_cmp (path_text d.path) (path_text e.path) ≡ Less

-- each comes before all that stand behind it
abbrev pub Rises : List Difference → Type 0
Rises [] = Unit {0}
Rises (d ∷ ds) = AllByRecursion (IsBefore d) ds × Rises ds

-- Exactly the paths at which the trees differ, each once, in the order of the bytes of their texts.
pub record AreDifferences (t u : Tree) (ds : List Difference) : Type 0 where
  pub each : AllByRecursion (IsDifference t u) ds
  pub all : (p : Path) → map.get t p ≢ map.get u p → Has ds p
  pub order : Rises ds
