-- What refutes a property from a tree over the domain, or shows it.
use Rattle.std.specs.Prelude.{◌≢◌, ℕ, ◌<◌, List, [], ◌∷◌, length, IsSome}
use Rattle.fs_semantics.specs.FileTree.{Tree, IsTree}
use Rattle.fs_semantics.specs.Programs.{Program}
use Rattle.fs_semantics.specs.Orders.{IsLinearExtension, IsFree, IsExchange, IsCounterexample, IsSecondRunCounterexample, outcome}
use Rattle.finite_domain.specs.Shadows.{IsOver}
use Rattle.finite_domain.specs.Layouts.{domain_of}
use Rattle.path_domain.specs.declared.listed.Domain.{Domain}
use Rattle.path_domain.specs.Laid.{layout_of}
use Rattle.orders.specs.Relation.{Relation, Comes}
use Rattle.orders.specs.Extensions.{TakesLeast}
use Rattle.order_encode.specs.declared.witness.Witness.{Witness}
use Rattle.order_encode.specs.declared.witness.Witness.TheVariants as witness

-- the paths and contents of the tree are those of the domain
abbrev pub IsOverDomain : Domain → Tree → Type 0
IsOverDomain d tree = IsOver (domain_of (layout_of d)) tree

-- Two allowed orders, the second the first with two free neighbours exchanged, have different outcomes from a tree over the
-- domain.
pub record AreDifferentNeighbours (programs : List Program) (before : ℕ → ℕ → Type 0) (d : Domain) (tree : Tree)
    (left right : List ℕ) : Type 0 where
  pub over : IsOverDomain d tree
  pub exchange : IsExchange before left right
  pub counterexample : IsCounterexample programs before tree left right

-- the first extension: at each step the least node that may come next
pub record IsFirstExtension (order : Relation) (first : List ℕ) : Type 0 where
  pub allowed : IsLinearExtension order.count (Comes order) first
  pub least : TakesLeast order.count (Comes order) [] first

-- The first extension ends, from a tree over the domain, in a tree that a second run doesn't leave as it is.
pub record IsChangedAgain (programs : List Program) (order : Relation) (d : Domain) (tree : Tree) (first : List ℕ) : Type 0 where
  pub is_first : IsFirstExtension order first
  pub over : IsOverDomain d tree
  pub counterexample : IsSecondRunCounterexample programs (Comes order) tree first

-- The first extension ends in a tree from a tree over the domain.
pub record IsEndedFrom (programs : List Program) (order : Relation) (d : Domain) (tree : Tree) (first : List ℕ) : Type 0 where
  pub is_first : IsFirstExtension order first
  pub is_tree : IsTree tree
  pub over : IsOverDomain d tree
  pub ends : IsSome (outcome programs first tree)

-- Two allowed orders have different outcomes from some tree over the domain.
pub record HaveDifferentOutcomes (programs : List Program) (before : ℕ → ℕ → Type 0) (d : Domain) : Type 0 where
  pub tree : Tree
  pub left : List ℕ
  pub right : List ℕ
  pub over : IsOverDomain d tree
  pub counterexample : IsCounterexample programs before tree left right

-- From some tree over the domain two programs, neither of which comes before the other, end differently the one way and the other.
pub record HasApartPair (programs : List Program) (before : ℕ → ℕ → Type 0) (d : Domain) : Type 0 where
  pub tree : Tree
  pub is_tree : IsTree tree
  pub over : IsOverDomain d tree
  pub left : ℕ
  pub right : ℕ
  pub left_below : left < length programs
  pub right_below : right < length programs
  pub free : IsFree before left right
  pub differ : outcome programs (left ∷ right ∷ []) tree ≢ outcome programs (right ∷ left ∷ []) tree

-- A second run in the first extension changes what the first one left, from some tree over the domain.
pub record HasSecondChange (programs : List Program) (order : Relation) (d : Domain) : Type 0 where
  pub tree : Tree
  pub first : List ℕ
  pub changed : IsChangedAgain programs order d tree first

-- The first extension ends in a tree from some tree over the domain.
pub record HasEnd (programs : List Program) (order : Relation) (d : Domain) : Type 0 where
  pub tree : Tree
  pub first : List ℕ
  pub ended : IsEndedFrom programs order d tree first

-- the witness shows that two orders end differently; that a second run changes something; that the first extension ends in a tree
abbrev pub ShowsDifference : List Program → (ℕ → ℕ → Type 0) → Domain → Witness → Type 0
ShowsDifference programs before d (witness.Orders tree left right) = AreDifferentNeighbours programs before d tree left right
ShowsDifference programs before d (witness.Twice tree first) = ⊥
ShowsDifference programs before d (witness.Ends tree first) = ⊥

abbrev pub ShowsChange : List Program → Relation → Domain → Witness → Type 0
ShowsChange programs order d (witness.Orders tree left right) = ⊥
ShowsChange programs order d (witness.Twice tree first) = IsChangedAgain programs order d tree first
ShowsChange programs order d (witness.Ends tree first) = ⊥

abbrev pub ShowsEnd : List Program → Relation → Domain → Witness → Type 0
ShowsEnd programs order d (witness.Orders tree left right) = ⊥
ShowsEnd programs order d (witness.Twice tree first) = ⊥
ShowsEnd programs order d (witness.Ends tree first) = IsEndedFrom programs order d tree first
