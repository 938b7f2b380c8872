-- Paths that resources may manage.
use Rattle.std.specs.Prelude.{◌≡◌, ◌≢◌, [], ◌∷◌, codes}
use Rattle.fs_semantics.specs.FileTree.{Path}

-- at or under `/.rehearsal`, the folder of the program's own marks
abbrev pub IsReserved : Path → Type 0
IsReserved [] = ⊥
IsReserved (s ∷ p) = s ≡ codes ".rehearsal"

-- what may be managed: neither the root nor what is reserved
abbrev pub MayBeManaged : Path → Type 0
MayBeManaged p = (p ≢ []) × (IsReserved p → ⊥)
