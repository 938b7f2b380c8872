-- What stands at a path, and what a change leaves, in words.
use Rattle.std.specs.Prelude.{◌≡◌, ◌≢◌, ◌⊎◌, ℕ, List, [], IsTrue, Option, Some, None}
use Rattle.std.specs.FinMap as map
use Rattle.fs_semantics.specs.FileTree.{Path, Entry, Folder, File, Link, Tree, parent}

-- a file stands at the path
abbrev pub IsFileAt : Tree → Path → Type 0
IsFileAt t p = (content : List ℕ) × (map.get t p ≡ Some (File content))

-- a symbolic link stands at the path
abbrev pub IsLinkAt : Tree → Path → Type 0
IsLinkAt t p = (target : List ℕ) × (map.get t p ≡ Some (Link target))

-- the root is always a folder
abbrev pub IsFolderAt : Tree → Path → Type 0
IsFolderAt t p = (p ≡ []) ⊎ (map.get t p ≡ Some Folder)

-- the root is never free
abbrev pub IsFreeAt : Tree → Path → Type 0
IsFreeAt t p = (p ≢ []) × (map.get t p ≡ None)

-- no entry has the path as its parent
abbrev pub HasNoChild : Tree → Path → Type 0
HasNoChild t p = (q : Path) → IsTrue (map.contains_key t q) → parent q ≢ p

-- u has this at the path, and is t elsewhere
pub record IsWith (t u : Tree) (p : Path) (x : Option Entry) : Type 0 where
  pub here : map.get u p ≡ x
  pub elsewhere : (q : Path) → q ≢ p → map.get u q ≡ map.get t q

-- u is t with a new entry, whose place was free and whose parent is a folder
pub record Makes (p : Path) (x : Entry) (t u : Tree) : Type 0 where
  pub free : IsFreeAt t p
  pub above : IsFolderAt t (parent p)
  pub leaves : IsWith t u p (Some x)

-- a folder that isn't the root and has no child
pub record IsEmptyFolder (t : Tree) (p : Path) : Type 0 where
  pub not_root : p ≢ []
  pub folder : IsFolderAt t p
  pub childless : HasNoChild t p

-- u is t without the file, the link or the empty folder at the path
pub record Removes (p : Path) (t u : Tree) : Type 0 where
  pub goes : IsFileAt t p ⊎ (IsLinkAt t p ⊎ IsEmptyFolder t p)
  pub leaves : IsWith t u p None

-- u is t with a new file, whose content is that of the file at the first path
pub record Copies (from p : Path) (t u : Tree) : Type 0 where
  pub content : List ℕ
  pub file : map.get t from ≡ Some (File content)
  pub makes : Makes p (File content) t u
