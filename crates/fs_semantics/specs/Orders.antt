-- Orders of resources, and what is said of all of them.
use Rattle.std.specs.Prelude.{◌≡◌, ◌≢◌, ◌==◌, ℕ, zero, suc, ◌+◌, ◌<◌, Bool, IsTrue, List, [], ◌∷◌, ◌++◌, length, slice_index_or, IsSome, Some, if◌then◌else◌}
use Rattle.std.specs.List.{AllByRecursion}
use Rattle.fs_semantics.specs.FileTree.{Tree, IsTree}
use Rattle.fs_semantics.specs.Programs.{Program, Id, Outcome, and_then, run}
use Rattle.fs_semantics.specs.Changes.{Commutes}

-- a relation that is told by a test
abbrev pub Told : (ℕ → ℕ → Bool) → ℕ → ℕ → Type 0
Told before a b = IsTrue (before a b)

-- no b stands ahead of an a with before a b
abbrev pub NoneAhead : (ℕ → ℕ → Type 0) → List ℕ → Type 0
NoneAhead before [] = Unit {0}
NoneAhead before (b ∷ order) = AllByRecursion (λ a. before a b → ⊥) order × NoneAhead before order

-- how often a number stands in a list
abbrev pub times : ℕ → List ℕ → ℕ
times k [] = 0
times k (i ∷ order) = (if i == k then 1 else 0) + times k order

-- An allowed order of n resources: each number below n exactly once, no other, and none ahead of one that comes before it.
pub record IsLinearExtension (n : ℕ) (before : ℕ → ℕ → Type 0) (order : List ℕ) : Type 0 where
  pub below : AllByRecursion (λ k. k < n) order
  pub once : (k : ℕ) → k < n → times k order ≡ 1
  pub kept : NoneAhead before order

-- n numbers from k on
abbrev pub up_from : ℕ → ℕ → List ℕ
up_from k zero = []
up_from k (suc n) = k ∷ up_from (suc k) n

-- a and b differ and neither comes before the other
pub record IsFree (before : ℕ → ℕ → Type 0) (a b : ℕ) : Type 0 where
  pub differ : a ≢ b
  pub not_before : before a b → ⊥
  pub not_after : before b a → ⊥

-- the second order is the first with two free neighbours exchanged
pub record IsExchange (before : ℕ → ℕ → Type 0) (order other : List ℕ) : Type 0 where
  pub front : List ℕ
  pub left : ℕ
  pub right : ℕ
  pub back : List ℕ
  pub was : order ≡ front ++ left ∷ right ∷ back
  pub is : other ≡ front ++ right ∷ left ∷ back
  pub free : IsFree before left right

-- the programs in this order, one after the other
abbrev pub outcome : List Program → List ℕ → Tree → Outcome
outcome programs [] t = Some t
outcome programs (i ∷ order) t = and_then (run (slice_index_or programs i Id) t) (outcome programs order)

-- From every tree all allowed orders end in one same tree or all in Error.
abbrev pub IsDeterministic : List Program → (ℕ → ℕ → Type 0) → Type 0
IsDeterministic programs before = (t : Tree) → IsTree t → (o p : List ℕ)
    → IsLinearExtension (length programs) before o → IsLinearExtension (length programs) before p
    → outcome programs o t ≡ outcome programs p t

-- A second run, in whatever allowed order, changes nothing.
abbrev pub IsIdempotent : List Program → (ℕ → ℕ → Type 0) → Type 0
IsIdempotent programs before = (t : Tree) → IsTree t → (o p : List ℕ)
    → IsLinearExtension (length programs) before o → IsLinearExtension (length programs) before p
    → (u : Tree) → outcome programs o t ≡ Some u → outcome programs p u ≡ Some u

-- Some tree and some allowed order end in a tree.
pub record Succeeds (programs : List Program) (before : ℕ → ℕ → Type 0) : Type 0 where
  pub tree : Tree
  pub is_tree : IsTree tree
  pub order : List ℕ
  pub allowed : IsLinearExtension (length programs) before order
  pub ends : IsSome (outcome programs order tree)

-- Two allowed orders that end differently from one tree.
pub record IsCounterexample (programs : List Program) (before : ℕ → ℕ → Type 0) (tree : Tree) (left right : List ℕ) : Type 0 where
  pub is_tree : IsTree tree
  pub left_allowed : IsLinearExtension (length programs) before left
  pub right_allowed : IsLinearExtension (length programs) before right
  pub differ : outcome programs left tree ≢ outcome programs right tree

-- An allowed order that ends in a tree which a second run in the same order doesn't leave as it is.
pub record IsSecondRunCounterexample (programs : List Program) (before : ℕ → ℕ → Type 0) (tree : Tree) (order : List ℕ) : Type 0 where
  pub is_tree : IsTree tree
  pub allowed : IsLinearExtension (length programs) before order
  pub after : Tree
  pub ends : outcome programs order tree ≡ Some after
  pub changes : outcome programs order after ≢ Some after

-- Allowed orders that differ by one exchange of free neighbours end alike.
abbrev pub NeighboursAgree : List Program → (ℕ → ℕ → Type 0) → Type 0
NeighboursAgree programs before = (t : Tree) → IsTree t → (o p : List ℕ)
    → IsLinearExtension (length programs) before o → IsLinearExtension (length programs) before p → IsExchange before o p
    → outcome programs o t ≡ outcome programs p t

-- Programs of which neither comes before the other commute.
abbrev pub FreeCommute : List Program → (ℕ → ℕ → Type 0) → Type 0
FreeCommute programs before = (a b : ℕ) → a < length programs → b < length programs → IsFree before a b
    → Commutes (slice_index_or programs a Id) (slice_index_or programs b Id)
