-- Lists of paths by how many segments they have.
use Rattle.std.specs.Prelude.{ℕ, ◌≤◌, ◌==◌, List, [], ◌∷◌, length, filter}
use Rattle.std.specs.List.{AllByRecursion}
use Rattle.fs_semantics.specs.FileTree.{Path}

-- none has more segments than one ahead of it
abbrev pub AreFalling : List Path → Type 0
AreFalling [] = Unit {0}
AreFalling (p ∷ ps) = AllByRecursion (λ (q : Path). length q ≤ length p) ps × AreFalling ps

-- those of so many segments, in their order
abbrev pub of_length : ℕ → List Path → List Path
of_length n ps = filter (λ p. length p == n) ps
