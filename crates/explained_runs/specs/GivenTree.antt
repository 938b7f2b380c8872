-- The tree of given folders alone.
use Rattle.std.specs.Prelude.{◌≡◌, ◌⊎◌, ℕ, List, [], ◌∷◌, ◌++◌, take, Some}
use Rattle.std.specs.FinMap as map
use Rattle.fs_semantics.specs.FileTree.{Path, Entry, Folder, Tree}
use Rattle.fs_semantics.specs.Entries.{IsFolderAt}
use Rattle.given_hosts.specs.Given.{IsGivenTree}

-- the first path is the second, or above it
abbrev pub IsFront : Path → Path → Type 0
IsFront p g = (rest : Path) × (g ≡ p ++ rest)

-- the path is one of these, or above one of them
abbrev pub IsAtOrAbove : Path → List Path → Type 0
IsAtOrAbove p [] = ⊥
IsAtOrAbove p (g ∷ given) = IsFront p g ⊎ IsAtOrAbove p given

-- nothing stands there but folders that are given, and those above them
abbrev pub HasOnlyGiven : List Path → Tree → Type 0
HasOnlyGiven given t = (p : Path) (x : Entry) → map.get t p ≡ Some x → (x ≡ Folder) × IsAtOrAbove p given

-- The tree of the given folders alone: they stand in it, with the folders above them, and nothing else does. Where none is given it has
-- no entries.
pub record IsOfGiven (given : List Path) (t : Tree) : Type 0 where
  pub is_tree : IsGivenTree given t
  pub only : HasOnlyGiven given t

-- ---- within the crate

-- nothing stands there but folders
abbrev pub HasOnlyFolders : Tree → Type 0
HasOnlyFolders t = (p : Path) (x : Entry) → map.get t p ≡ Some x → x ≡ Folder

-- what stands in the first stands in the second
abbrev pub IsWithin : Tree → Tree → Type 0
IsWithin t u = (p : Path) (x : Entry) → map.get t p ≡ Some x → map.get u p ≡ Some x

-- u is t with folders at and above the path, down to its first n segments
pub record IsGrown (n : ℕ) (p : Path) (t u : Tree) : Type 0 where
  pub folder : IsFolderAt u (take n p)
  pub kept : IsWithin t u
  pub new : (q : Path) (x : Entry) → map.get u q ≡ Some x → (map.get t q ≡ Some x) ⊎ ((x ≡ Folder) × IsFront q p)
