-- Entries that are wanted of a tree, and graphs that ensure them.
use Rattle.std.specs.Prelude.{◌≡◌, ℕ, List, [], length, Option, Some, None, IsSome}
use Rattle.std.specs.FinMap as map
use Rattle.fs_semantics.specs.FileTree.{Path, File, Tree, IsTree}
use Rattle.fs_semantics.specs.Programs.{Program, Creat}
use Rattle.fs_semantics.specs.Orders.{IsLinearExtension, outcome}
use Rattle.wanted_entry.specs.declared.wanted.Wanted.{Wanted}

-- a file with just this content stands at the path; where no content is given, any entry does
abbrev pub HasEntry : Tree → Path → Option (List ℕ) → Type 0
HasEntry u p None = IsSome (map.get u p)
HasEntry u p (Some content) = map.get u p ≡ Some (File content)

-- the tree has the wanted entry
abbrev pub HasWanted : Tree → Wanted → Type 0
HasWanted u w = HasEntry u w.path w.content

-- The graph ensures the entry: from every tree and in every allowed order, a run that ends in a tree ends in one that has it.
abbrev pub Ensures : List Program → (ℕ → ℕ → Type 0) → Wanted → Type 0
Ensures programs before w = (t : Tree) → IsTree t → (o : List ℕ) → IsLinearExtension (length programs) before o
    → (u : Tree) → outcome programs o t ≡ Some u → HasWanted u w

-- From the tree the allowed order ends in a tree that hasn't the entry.
pub record EndsWithout (programs : List Program) (before : ℕ → ℕ → Type 0) (w : Wanted) (tree : Tree) (order : List ℕ) : Type 0 where
  pub is_tree : IsTree tree
  pub allowed : IsLinearExtension (length programs) before order
  pub after : Tree
  pub ends : outcome programs order tree ≡ Some after
  pub misses : HasWanted after w → ⊥

-- the text, and the empty one where there is none
abbrev pub or_empty : Option (List ℕ) → List ℕ
or_empty None = []
or_empty (Some content) = content

-- The program that makes the entry in a free place. It says which path and which content matter beside those of the programs.
abbrev pub probe_of : Wanted → Program
probe_of w = Creat w.path (or_empty w.content)
