-- How a table keeps what it finds.
use Rattle.std.specs.Prelude.{◌≡◌, ℕ, List, [], map, Some, slice_get}
use Rattle.indexmap.specs.IndexMap as hashed
use Rattle.std.specs.Str.{bytes_eq}
use Rattle.fs_semantics.specs.FileTree.{Path, path_eq, parent}
use Rattle.fs_interpreter.specs.Places.{Listed, IsTable, place_in, content_place, children_in}
use Rattle.fs_interpreter.specs.declared.table.Node.{Node}
use Rattle.fs_interpreter.specs.declared.table.Table.TheInside.{Inside}

-- the paths of the nodes
abbrev pub paths_of : List Node → List Path
paths_of nodes = map (λ n. n.path) nodes

-- the two lists
abbrev pub listed : Inside → Listed
listed t = record { paths = paths_of t.nodes.items; contents = t.contents.items }

-- The two lists are a table, the parent and the children of each path are those, and each path and content is found. (An
-- entry of the map may be left over from a failed call; so what is found is compared.)
pub record IsKept (t : Inside) : Type 0 where
  pub table : IsTable (listed t)
  pub top : t.top.items ≡ children_in (paths_of t.nodes.items) []
  pub children : (i : ℕ) (n : Node) → slice_get t.nodes.items i ≡ Some n → n.children.items ≡ children_in (paths_of t.nodes.items) n.path
  pub parents : (i : ℕ) (n : Node) → slice_get t.nodes.items i ≡ Some n → n.parent ≡ place_in (paths_of t.nodes.items) (parent n.path)
  pub places : (p : Path) (i : ℕ) → place_in (paths_of t.nodes.items) p ≡ Some i → hashed.get path_eq t.places p ≡ Some i
  pub numbers : (c : List ℕ) (i : ℕ) → content_place t.contents.items c ≡ Some i → hashed.get bytes_eq t.numbers c ≡ Some i
