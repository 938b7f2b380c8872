-- How the nodes of a table grow by one.
use Rattle.std.specs.Prelude.{ℕ, zero, suc, List, [], ◌∷◌, ◌++◌, map, Option, Some, None}
use Rattle.fs_semantics.specs.FileTree.{Path}
use Rattle.fs_interpreter.specs.declared.table.Node.{Node}

-- a path with the places of its parent and of its children
pub record Seen : Type 0 where
  pub path : Path
  pub parent : Option ℕ
  pub children : List ℕ

-- what is seen of a node
abbrev pub seen : Node → Seen
seen n = record { path = n.path; parent = n.parent; children = n.children.items }

-- what is seen of all nodes
abbrev pub seen_all : List Node → List Seen
seen_all nodes = map seen nodes

-- a child more at one place
abbrev pub with_child : ℕ → ℕ → List Seen → List Seen
with_child j i [] = []
with_child zero i (s ∷ nodes) = record { path = s.path; parent = s.parent; children = s.children ++ i ∷ [] } ∷ nodes
with_child (suc j) i (s ∷ nodes) = s ∷ with_child j i nodes

-- the new place is a child at the place above, or else of the root
abbrev pub linked : Option ℕ → ℕ → List Seen → List Seen
linked None i nodes = nodes
linked (Some j) i nodes = with_child j i nodes

abbrev pub linked_top : Option ℕ → ℕ → List ℕ → List ℕ
linked_top None i top = top ++ i ∷ []
linked_top (Some j) i top = top
