-- The question whether all orders end alike behind a run in the first extension.
use Rattle.std.specs.Prelude.{◌≡◌, ◌≢◌, ◌⊎◌, ℕ, List, ◌++◌}
use Rattle.fs_semantics.specs.FileTree.{Path, Tree}
use Rattle.fs_semantics.specs.Programs.{Program}
use Rattle.fs_semantics.specs.Orders.{Told, outcome}
use Rattle.given_hosts.specs.Guard.{guard_before, after_first}
use Rattle.orders.specs.Relation.{Relation, comes}
use Rattle.order_encode.specs.Witnesses.{IsFirstExtension}
use Rattle.order_encode.specs.declared.witness.Witness.{Witness}
use Rattle.order_encode.specs.declared.witness.Witness.TheVariants as witness
use Rattle.determinism.specs.First.{IsDifference}
use Rattle.determinism.specs.Answers.{IsJudged}
use Rattle.determinism.specs.declared.first.First.{First}

-- all that is said of the answer
pub record IsJudgedBehind (given : List Path) (es : List Program) (order : Relation) (budget : ℕ) (answered : First) : Type 0 where
  pub first : List ℕ
  pub is_first : IsFirstExtension order first
  pub behind : Relation
  pub before : comes behind ≡ guard_before order.count (comes order)
  pub judged : IsJudged (after_first given es first) behind budget answered

-- the witness has two orders that end differently behind a run in the first extension
pub record IsDifferenceBehind (given : List Path) (es : List Program) (order : Relation) (w : Witness) : Type 0 where
  pub first : List ℕ
  pub is_first : IsFirstExtension order first
  pub differs : IsDifference (after_first given es first) (Told (guard_before order.count (comes order))) w

-- a second run in the order doesn't end as the first does
abbrev pub EndsDifferently : List Program → Tree → List ℕ → Type 0
EndsDifferently es tree order = outcome es order tree ≢ outcome es (order ++ order) tree

-- the first order, if a second run in it ends differently, else the other
abbrev pub IsDifferentOf : List Program → Tree → List ℕ → List ℕ → Witness → Type 0
IsDifferentOf es tree left right w =
    (EndsDifferently es tree left × (w ≡ witness.Twice tree left)) ⊎ ((EndsDifferently es tree left → ⊥) × (w ≡ witness.Twice tree right))
