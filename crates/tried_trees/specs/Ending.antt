-- A tree from which a run ends.
use Rattle.std.specs.Prelude.{◌≡◌, ℕ, List, IsSome, None}
use Rattle.fs_semantics.specs.FileTree.{Tree, IsTree}
use Rattle.fs_semantics.specs.Programs.{Program}
use Rattle.fs_semantics.specs.Orders.{outcome}

-- from the file tree the order ends in a tree
abbrev pub EndsFrom : List Program → List ℕ → Tree → Type 0
EndsFrom es order t = IsTree t × IsSome (outcome es order t)

-- from the tree the order ends in Error
abbrev pub Fails : List Program → List ℕ → Tree → Type 0
Fails es order t = outcome es order t ≡ None
