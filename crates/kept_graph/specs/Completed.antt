-- Counterexamples of the whole graph, made of orders of the kept programs.
use Rattle.std.specs.Prelude.{◌≡◌, ℕ, List}
use Rattle.fs_semantics.specs.FileTree.{Tree}
use Rattle.fs_semantics.specs.Programs.{Program}
use Rattle.fs_semantics.specs.Orders.{IsCounterexample, outcome}
use Rattle.orders.specs.Relation.{Relation, Comes}
use Rattle.commute_prune.specs.declared.settling.Pruned.{Pruned}
use Rattle.kept_graph.specs.declared.counterexamples.Completed.{Completed}
use Rattle.kept_graph.specs.Kept.{completion}

-- The completed orders are a counterexample of all programs.
pub record IsCompleted (es : List Program) (order : Relation) (pruned : Pruned) (t : Tree) (left right : List ℕ)
    (c : Completed) : Type 0 where
  pub left_is : c.left ≡ completion pruned left
  pub right_is : c.right ≡ completion pruned right
  pub counterexample : IsCounterexample es (Comes order) t c.left c.right

-- they end alike from the tree
abbrev pub AgreeCompleted : List Program → Pruned → Tree → List ℕ → List ℕ → Type 0
AgreeCompleted es pruned t left right = outcome es (completion pruned left) t ≡ outcome es (completion pruned right) t
