-- Programs that leave given folders standing, as is seen without a run.
use Rattle.std.specs.Prelude.{IsTrue, List}
use Rattle.fs_semantics.specs.FileTree.{Path, is_among}
use Rattle.fs_semantics.specs.Programs.{Program}
use Rattle.sure_folders.specs.Folders.{MayRemove}

-- the program has no removal of one of the paths
abbrev pub Spares : List Path → Program → Type 0
Spares given e = (p : Path) → IsTrue (is_among p given) → MayRemove e p → ⊥
