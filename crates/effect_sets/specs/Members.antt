-- What the sets of the code stand for.
use Rattle.std.specs.Prelude.{Bool, ◌&&◌, ◌||◌, not, List}
use Rattle.std.specs.List.{list_any}
use Rattle.std.specs.BTreeSet.{BTreeSet, contains}
use Rattle.fs_semantics.specs.FileTree.{Path, path_cmp, path_eq, parent, is_among}
use Rattle.effect_sets.specs.Footprints.{Paths, Footprint}

-- the members of an ordered set, by its test
abbrev pub members : BTreeSet Path → Paths
members s q = contains path_cmp s q

-- a path more, and one less
abbrev pub with_one : Path → Paths → Paths
with_one p f q = path_eq q p || f q

abbrev pub without_one : Path → Paths → Paths
without_one p f q = f q && not (path_eq q p)

-- what is in both
abbrev pub common : Paths → Paths → Paths
common f g q = f q && g q

-- q is the parent of one of these
abbrev pub is_parent_of : Path → List Path → Bool
is_parent_of q ps = list_any (λ p. path_eq q (parent p)) ps

-- the four sets of a footprint and the folders that stand after the program, each as a list in order
pub record Lists : Type 0 where
  pub reads : List Path
  pub writes : List Path
  pub folders : List Path
  pub children : List Path
  pub sure : List Path

-- the sets of these members
abbrev pub sets_of : Lists → Footprint
sets_of l = record {
  reads = λ q. is_among q l.reads;
  writes = λ q. is_among q l.writes;
  folders = λ q. is_among q l.folders;
  children = λ q. is_among q l.children;
}
