-- The folders of paths.
use Rattle.std.specs.Prelude.{◌≡◌, ◌≢◌, ◌↔◌, ◌⊎◌, List, [], ◌∷◌, Some}
use Rattle.std.specs.FinMap as map
use Rattle.fs_semantics.specs.FileTree.{Path, Entry, Folder, Tree, IsTree}
use Rattle.given_links.specs.Links.{IsWithin}

-- it is one of these paths, or lies above one
abbrev pub IsAboveOne : Path → List Path → Type 0
IsAboveOne p [] = ⊥
IsAboveOne p (q ∷ paths) = IsWithin q p ⊎ IsAboveOne p paths

-- The file tree of these paths and what lies above them: each of these stands in it, but the root, as a folder, and nothing else does.
pub record HasJust (paths : List Path) (t : Tree) : Type 0 where
  pub is_tree : IsTree t
  pub each : (p : Path) (x : Entry) → (map.get t p ≡ Some x) ↔ ((x ≡ Folder) × (p ≢ []) × IsAboveOne p paths)
