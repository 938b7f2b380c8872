-- A list that grows at its end.
use Rattle.std.proofs.Common.{◌≡◌, List, [], ◌∷◌, ◌++◌, append_assoc}
use Rattle.fs_semantics.specs.FileTree.{Tree}

-- a tree behind two lists is a tree behind the second
pub one_behind : (front yielded : List Tree) (t : Tree) → (front ++ yielded) ++ t ∷ [] ≡ front ++ (yielded ++ t ∷ [])
one_behind front yielded t = append_assoc front yielded (t ∷ [])
