-- What is said of orders of programs, from the file trees in which given folders stand. The folders are given of the tree in which
-- a first run begins, and of no other: a run may remove one.
use Rattle.std.specs.Prelude.{◌≡◌, ℕ, Bool, IsTrue, IsSome, List, length, Some}
use Rattle.std.specs.List.{AllByRecursion}
use Rattle.fs_semantics.specs.FileTree.{Path, Tree, IsTree, is_dir}
use Rattle.fs_semantics.specs.Programs.{Program}
use Rattle.fs_semantics.specs.Orders.{IsLinearExtension, IsCounterexample, IsSecondRunCounterexample, outcome}

-- each of these folders is a folder in the tree
abbrev pub Stand : List Path → Tree → Type 0
Stand given t = AllByRecursion (λ p. IsTrue (is_dir t p)) given

-- a file tree in which the given folders stand
pub record IsGivenTree (given : List Path) (t : Tree) : Type 0 where
  pub is_tree : IsTree t
  pub stand : Stand given t

-- From every tree in which the given folders stand all allowed orders end in one same tree or all in Error.
abbrev pub IsDeterministicFrom : List Path → List Program → (ℕ → ℕ → Type 0) → Type 0
IsDeterministicFrom given programs before = (t : Tree) → IsGivenTree given t → (o p : List ℕ)
    → IsLinearExtension (length programs) before o → IsLinearExtension (length programs) before p
    → outcome programs o t ≡ outcome programs p t

-- A first run from a tree in which the given folders stand, and then a second one from what it left, in whatever allowed order: the
-- second changes nothing.
abbrev pub IsIdempotentFrom : List Path → List Program → (ℕ → ℕ → Type 0) → Type 0
IsIdempotentFrom given programs before = (t : Tree) → IsGivenTree given t → (o p : List ℕ)
    → IsLinearExtension (length programs) before o → IsLinearExtension (length programs) before p
    → (u : Tree) → outcome programs o t ≡ Some u → outcome programs p u ≡ Some u

-- Some tree in which the given folders stand and some allowed order end in a tree.
pub record SucceedsFrom (given : List Path) (programs : List Program) (before : ℕ → ℕ → Type 0) : Type 0 where
  pub tree : Tree
  pub is_tree : IsGivenTree given tree
  pub order : List ℕ
  pub allowed : IsLinearExtension (length programs) before order
  pub ends : IsSome (outcome programs order tree)

-- Two allowed orders that end differently from one tree, in which the given folders stand.
pub record IsCounterexampleFrom (given : List Path) (programs : List Program) (before : ℕ → ℕ → Type 0) (tree : Tree)
    (left right : List ℕ) : Type 0 where
  pub stand : Stand given tree
  pub shows : IsCounterexample programs before tree left right

-- An allowed order that ends, from a tree in which the given folders stand, in a tree which a second run in the same order doesn't
-- leave as it is.
pub record IsSecondRunCounterexampleFrom (given : List Path) (programs : List Program) (before : ℕ → ℕ → Type 0)
    (tree : Tree) (order : List ℕ) : Type 0 where
  pub stand : Stand given tree
  pub shows : IsSecondRunCounterexample programs before tree order

-- From every tree in which the given folders stand, a run that ends in a tree ends in one that passes the test.
abbrev pub EndsWithFrom : List Path → List Program → (ℕ → ℕ → Type 0) → (Tree → Bool) → Type 0
EndsWithFrom given programs before passes = (t : Tree) → IsGivenTree given t → (o : List ℕ)
    → IsLinearExtension (length programs) before o → (u : Tree) → outcome programs o t ≡ Some u → IsTrue (passes u)

-- From every tree in which the given folders stand each allowed order of the one graph and each of the other end in one same tree,
-- or both in Error.
abbrev pub AreEqualFrom : List Path → List Program → (ℕ → ℕ → Type 0) → List Program → (ℕ → ℕ → Type 0) → Type 0
AreEqualFrom given es before fs other = (t : Tree) → IsGivenTree given t → (o p : List ℕ)
    → IsLinearExtension (length es) before o → IsLinearExtension (length fs) other p → outcome es o t ≡ outcome fs p t
