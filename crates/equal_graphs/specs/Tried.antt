-- Trees from which two runs tell something.
use Rattle.std.specs.Prelude.{ℕ, List}
use Rattle.fs_semantics.specs.FileTree.{Tree, IsTree}
use Rattle.fs_semantics.specs.Programs.{Program}
use Rattle.order_encode.specs.Parting.{EndDifferently}

-- from the file tree the two orders end differently
abbrev pub PartsFrom : List Program → List ℕ → List Program → List ℕ → Tree → Type 0
PartsFrom es order fs other t = IsTree t × EndDifferently es order fs other t
