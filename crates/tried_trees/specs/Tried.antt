-- What it means that a pair of programs was tried on a tree.
use Rattle.std.specs.Prelude.{◌≡◌, ◌<◌, ℕ, List}
use Rattle.fs_semantics.specs.FileTree.{Tree}
use Rattle.fs_semantics.specs.Programs.{Program}
use Rattle.fs_semantics.specs.Orders.{Told, IsFree, IsExchange, IsCounterexample, outcome}
use Rattle.orders.specs.Relation.{Relation, comes, Comes}
use Rattle.tried_trees.specs.declared.placing.Place.{Place}
use Rattle.tried_trees.specs.declared.trying.Difference.{Difference}
use Rattle.tried_trees.specs.Placing.{IsPlaced}

-- From the tree these allowed orders end differently, and the second is the first with two free neighbours exchanged.
abbrev pub IsDifference : List Program → Relation → Difference → Type 0
IsDifference es order d = IsCounterexample es (Told (comes order)) d.tree d.left d.right × IsExchange (Told (comes order)) d.left d.right

-- Put next to one another at this place, the two end alike from the tree in either order.
pub record EndAlike (place : Place) (es : List Program) (order : Relation) (t : Tree) (a b : ℕ) : Type 0 where
  pub left : List ℕ
  pub right : List ℕ
  pub placed : IsPlaced place order a b left right
  pub alike : outcome es left t ≡ outcome es right t

-- the same of a pair, if both are programs and may stand in either order
abbrev pub IsTried : Place → List Program → Relation → Tree → (ℕ × ℕ) → Type 0
IsTried place es order t pair = pair.0 < order.count → pair.1 < order.count → IsFree (Comes order) pair.0 pair.1
    → EndAlike place es order t pair.0 pair.1
