-- Paths that begin other paths.
use Rattle.std.specs.Prelude.{Bool, true, false, ◌&&◌, not, List, [], ◌∷◌}
use Rattle.std.specs.Str.{bytes_eq}
use Rattle.fs_semantics.specs.FileTree.{Path}

-- q begins with p, or is p
abbrev pub is_front : Path → Path → Bool
is_front [] q = true
is_front (s ∷ p) [] = false
is_front (s ∷ p) (r ∷ q) = bytes_eq s r && is_front p q

-- neither begins with the other
abbrev pub is_disjoint : Path → Path → Bool
is_disjoint p q = not (is_front p q) && not (is_front q p)

-- disjoint from each of these
abbrev pub is_disjoint_from_all : Path → List Path → Bool
is_disjoint_from_all p [] = true
is_disjoint_from_all p (q ∷ qs) = is_disjoint p q && is_disjoint_from_all p qs

-- each is disjoint from those after it
abbrev pub are_disjoint : List Path → Bool
are_disjoint [] = true
are_disjoint (p ∷ ps) = is_disjoint_from_all p ps && are_disjoint ps
