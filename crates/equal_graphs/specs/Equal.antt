-- Two graphs that do the same.
use Rattle.std.specs.Prelude.{◌≡◌, ◌≢◌, ℕ, List, length}
use Rattle.fs_semantics.specs.FileTree.{Tree, IsTree}
use Rattle.fs_semantics.specs.Programs.{Program}
use Rattle.fs_semantics.specs.Orders.{IsLinearExtension, outcome}
use Rattle.orders.specs.Relation.{Relation}
use Rattle.order_encode.specs.Witnesses.{IsFirstExtension}

-- Both graphs end alike: from every tree each allowed order of the one and each of the other end in one same tree, or both in Error.
abbrev pub AreEqual : List Program → (ℕ → ℕ → Type 0) → List Program → (ℕ → ℕ → Type 0) → Type 0
AreEqual es before fs other = (t : Tree) → IsTree t → (o p : List ℕ) → IsLinearExtension (length es) before o
    → IsLinearExtension (length fs) other p → outcome es o t ≡ outcome fs p t

-- From the tree an allowed order of the one and an allowed order of the other have different outcomes.
pub record EndApart (es : List Program) (before : ℕ → ℕ → Type 0) (fs : List Program) (other : ℕ → ℕ → Type 0)
    (tree : Tree) (left right : List ℕ) : Type 0 where
  pub is_tree : IsTree tree
  pub left_allowed : IsLinearExtension (length es) before left
  pub right_allowed : IsLinearExtension (length fs) other right
  pub differ : outcome es left tree ≢ outcome fs right tree

-- From the tree the two first extensions have different outcomes.
pub record FirstsPart (es : List Program) (order : Relation) (fs : List Program) (other : Relation) (tree : Tree) : Type 0 where
  pub is_tree : IsTree tree
  pub left : List ℕ
  pub right : List ℕ
  pub left_first : IsFirstExtension order left
  pub right_first : IsFirstExtension other right
  pub differ : outcome es left tree ≢ outcome fs right tree
