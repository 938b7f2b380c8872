-- What cells stand for: a file tree or Error.
use Rattle.std.specs.Prelude.{◌≡◌, ◌≢◌, ℕ, true, false, List, Option, Some, None, slice_get}
use Rattle.std.specs.FinMap as map
use Rattle.fs_semantics.specs.FileTree.{Path, Tree, Entry, Folder, File, Link}
use Rattle.fs_semantics.specs.Programs.{Outcome}
use Rattle.fs_interpreter.specs.Places.{Listed}
use Rattle.fs_interpreter.specs.States.{Cell, State}

-- the cell tells that this stands at its path
abbrev pub Tells : List (List ℕ) → Cell → Option Entry → Type 0
Tells contents c None = c.present ≡ false
Tells contents c (Some Folder) = (c.present ≡ true) × (c.folder ≡ true)
Tells contents c (Some (File content)) = (c.present ≡ true) × (c.folder ≡ false) × (c.link ≡ false)
    × (slice_get contents c.content ≡ Some content)
Tells contents c (Some (Link target)) = (c.present ≡ true) × (c.folder ≡ false) × (c.link ≡ true)
    × (slice_get contents c.content ≡ Some target)

-- What the cells tell is this tree: at each path of the table stands what its cell tells, and elsewhere nothing.
pub record Stands (table : Listed) (s : State) (t : Tree) : Type 0 where
  pub no_error : s.error ≡ false
  pub tells : (i : ℕ) (p : Path) → slice_get table.paths i ≡ Some p → Tells table.contents (s.cell i) (map.get t p)
  pub nothing_else : (p : Path) → ((i : ℕ) → slice_get table.paths i ≢ Some p) → map.get t p ≡ None

-- the cells stand for this outcome
abbrev pub StandsFor : Listed → State → Outcome → Type 0
StandsFor table s None = s.error ≡ true
StandsFor table s (Some t) = Stands table s t
