-- What it means that arrows repair a graph, asked from the file trees in which given folders stand.
use Rattle.std.specs.Prelude.{◌≡◌, ◌≢◌, ◌↔◌, ℕ, List, [], ◌∷◌, ◌++◌, length, IsSome}
use Rattle.fs_semantics.specs.FileTree.{Path, Tree}
use Rattle.fs_semantics.specs.Programs.{Program}
use Rattle.fs_semantics.specs.Orders.{Told, IsLinearExtension, outcome}
use Rattle.given_hosts.specs.Given.{IsGivenTree, IsDeterministicFrom}
use Rattle.orders.specs.Relation.{Relation, comes, Comes}
use Rattle.cnf.specs.Formulas.{Formula}
use Rattle.cnf.specs.declared.log.Step.{Step}
use Rattle.repair.specs.Arrows.{ComesWith, CanBeAdded}
use Rattle.repair.specs.Answers.{added_in, IfDone, IfSpent, IsSpentWith}
use Rattle.repair.specs.declared.repaired.Repaired.{Repaired}
use Rattle.given_verdict.specs.Graphs.{asked_programs, asked_order}

-- The arrows repair the graph: they can be added, and with them it is deterministic from these trees.
pub record RepairsFrom (given : List Path) (es : List Program) (order : Relation) (arrows : List (ℕ × ℕ)) : Type 0 where
  pub added : CanBeAdded order arrows
  pub deterministic : IsDeterministicFrom given es (ComesWith order arrows)

-- None of the arrows can be left out: without any one of them the graph isn't deterministic from these trees.
abbrev pub AreNeededFrom : List Path → List Program → Relation → List (ℕ × ℕ) → Type 0
AreNeededFrom given es order arrows = (front : List (ℕ × ℕ)) (arrow : ℕ × ℕ) (back : List (ℕ × ℕ)) → arrows ≡ front ++ arrow ∷ back
    → IsDeterministicFrom given es (ComesWith order (front ++ back)) → ⊥

-- The arrows point the way that succeeds: from some tree in which the given folders stand a run that follows them ends in a tree, and a
-- run that is allowed without them doesn't end in the same one.
pub record PointRightFrom (given : List Path) (es : List Program) (order : Relation) (arrows : List (ℕ × ℕ)) : Type 0 where
  pub tree : Tree
  pub is_tree : IsGivenTree given tree
  pub run : List ℕ
  pub follows : IsLinearExtension (length es) (ComesWith order arrows) run
  pub ends : IsSome (outcome es run tree)
  pub other : List ℕ
  pub allowed : IsLinearExtension (length es) (Comes order) other
  pub differ : outcome es run tree ≢ outcome es other tree

-- The budget was spent on the question whether the graph that is asked about is deterministic with these arrows.
pub record IsSpentWithFrom (given : List Path) (es : List Program) (order : Relation) (budget : ℕ)
    (arrows : List (ℕ × ℕ)) (f : Formula) (steps : List Step) : Type 0 where
  pub asked : Relation
  pub before : comes asked ≡ asked_order given order
  pub spent : IsSpentWith (asked_programs given es) asked budget arrows f steps

-- All that is said of the answer. The arrows are between the resources, whatever is given.
pub record IsRepairedFrom (given : List Path) (es : List Program) (order : Relation) (budget : ℕ) (answered : Repaired) : Type 0 where
  pub added : CanBeAdded order (added_in answered)
  pub repairs : IfDone answered (RepairsFrom given es order)
  pub needed : IfDone answered (AreNeededFrom given es order)
  pub right : IfDone answered (λ arrows. arrows ≢ [] → PointRightFrom given es order arrows)
  pub nothing : IfDone answered (λ arrows. (arrows ≡ []) ↔ IsDeterministicFrom given es (Told (comes order)))
  pub spent : IfSpent answered (IsSpentWithFrom given es order budget)
