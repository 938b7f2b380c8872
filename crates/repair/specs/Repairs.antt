-- What it means that arrows repair a graph.
use Rattle.std.specs.Prelude.{◌≡◌, ◌≢◌, ℕ, List, ◌∷◌, ◌++◌, length, IsSome}
use Rattle.fs_semantics.specs.FileTree.{Tree, IsTree}
use Rattle.fs_semantics.specs.Programs.{Program}
use Rattle.fs_semantics.specs.Orders.{IsLinearExtension, IsDeterministic, outcome}
use Rattle.orders.specs.Relation.{Relation, Comes}
use Rattle.repair.specs.Arrows.{ComesWith, CanBeAdded}

-- The arrows repair the graph: they can be added, and with them it is deterministic.
pub record Repairs (es : List Program) (order : Relation) (arrows : List (ℕ × ℕ)) : Type 0 where
  pub added : CanBeAdded order arrows
  pub deterministic : IsDeterministic es (ComesWith order arrows)

-- None of the arrows can be left out: without any one of them the graph isn't deterministic.
abbrev pub AreNeeded : List Program → Relation → List (ℕ × ℕ) → Type 0
AreNeeded es order arrows = (front : List (ℕ × ℕ)) (arrow : ℕ × ℕ) (back : List (ℕ × ℕ)) → arrows ≡ front ++ arrow ∷ back
    → IsDeterministic es (ComesWith order (front ++ back)) → ⊥

-- The arrows point the way that succeeds: from some tree a run that follows them ends in a tree, and a run that is allowed without
-- them doesn't end in the same one.
pub record PointRight (es : List Program) (order : Relation) (arrows : List (ℕ × ℕ)) : Type 0 where
  pub tree : Tree
  pub is_tree : IsTree tree
  pub run : List ℕ
  pub follows : IsLinearExtension (length es) (ComesWith order arrows) run
  pub ends : IsSome (outcome es run tree)
  pub other : List ℕ
  pub allowed : IsLinearExtension (length es) (Comes order) other
  pub differ : outcome es run tree ≢ outcome es other tree
