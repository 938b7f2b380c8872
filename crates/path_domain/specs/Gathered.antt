-- What was gathered of programs so far.
use Rattle.std.specs.Prelude.{Bool, false, ◌||◌, List, [], ◌∷◌}
use Rattle.std.specs.BTreeSet.{BTreeSet, contains}
use Rattle.fs_semantics.specs.FileTree.{Path, path_cmp, path_eq}
use Rattle.fs_interpreter.specs.Places.{Listed, with_content}
use Rattle.finite_domain.specs.Mentions.{Matter, At, Below, Text}
use Rattle.path_domain.specs.declared.found.Found.{Found}

-- a set of paths, by its test
abbrev pub Paths : Type 0
Paths = Path → Bool

-- the members of an ordered set
abbrev pub members : BTreeSet Path → Paths
members s q = contains path_cmp s q

-- the set with one path more
abbrev pub with_one : Path → Paths → Paths
with_one p f q = path_eq q p || f q

-- the paths that programs have, those whose children matter, and a table with the contents that they write
pub record Gathered : Type 0 where
  pub paths : Paths
  pub watched : Paths
  pub table : Listed

-- what the code has gathered, with its sets by their tests
abbrev pub gathered_of : Found → Gathered
gathered_of f = record { paths = members f.paths; watched = members f.watched; table = f.table }

-- no paths yet, and the empty text
abbrev pub nothing : Gathered
nothing = record { paths = λ q. false; watched = λ q. false; table = record { paths = []; contents = [] ∷ [] } }

-- with one thing more that is mentioned
abbrev pub with_matter : Matter → Gathered → Gathered
with_matter (At p) g = record { paths = with_one p g.paths; watched = g.watched; table = g.table }
with_matter (Below p) g = record { paths = with_one p g.paths; watched = with_one p g.watched; table = g.table }
with_matter (Text c) g = record { paths = g.paths; watched = g.watched; table = with_content g.table c }

-- what programs mention, one after the other
abbrev pub gather : List Matter → Gathered → Gathered
gather [] g = g
gather (x ∷ xs) g = gather xs (with_matter x g)
