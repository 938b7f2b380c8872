-- How the paths of a domain are laid out.
use Rattle.std.specs.Prelude.{◌≡◌, ◌≢◌, ◌⊎◌, ◌↔◌, ℕ, ◌+◌, ◌<◌, Bool, IsTrue, List, [], ◌∷◌, if◌then◌else◌}
use Rattle.finite_domain.specs.Layouts.{Layout, stem, HaveStart}
use Rattle.path_domain.specs.declared.listed.Domain.{Domain}
use Rattle.fs_semantics.specs.FileTree.{Path, parent, is_among}

-- the places of the paths that pass the test, the first path being number k
abbrev pub places_from : ℕ → (Path → Bool) → List Path → List ℕ
places_from k f [] = []
places_from k f (p ∷ ps) = if f p then k ∷ places_from (k + 1) f ps else places_from (k + 1) f ps

-- the contents begin with exactly the stems of fewer letters x
abbrev pub Starts : ℕ → List (List ℕ) → Type 0
Starts a cs = (n : ℕ) → (n < a) ↔ HaveStart cs (stem n)

-- none of the paths is the root, and the parent of each is the root or one of them
abbrev pub HaveParents : List Path → Type 0
HaveParents ps = (p : Path) → IsTrue (is_among p ps) → (p ≢ []) × ((parent p ≡ []) ⊎ IsTrue (is_among (parent p) ps))

-- the paths, the places of the fresh children, and the contents
abbrev pub layout_of : Domain → Layout
layout_of d = record { paths = d.table.paths; fresh = d.fresh; contents = d.table.contents }
