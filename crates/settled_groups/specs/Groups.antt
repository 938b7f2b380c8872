-- Groups of programs that run one after the other.
use Rattle.std.specs.Prelude.{◌≡◌, ℕ, List, [], ◌∷◌, ◌++◌, Some, slice_index_or}
use Rattle.std.specs.List.{AllByRecursion}
use Rattle.fs_semantics.specs.FileTree.{Tree, IsTree}
use Rattle.fs_semantics.specs.Programs.{Program, Id}
use Rattle.fs_semantics.specs.Changes.{CommuteFrom}
use Rattle.fs_semantics.specs.Orders.{outcome}
use Rattle.sure_folders.specs.Folders.{nowhere, IsTreeWith}
use Rattle.sure_folders.specs.Before.{IsSureBeforeEither}

-- the programs of all groups, one group after the other
abbrev pub in_turn : List (List ℕ) → List ℕ
in_turn [] = []
in_turn (group ∷ groups) = group ++ in_turn groups

-- Run by itself, the group settles: where it ends in a tree, it leaves that tree as it is when it runs again.
abbrev pub GroupSettles : List Program → List ℕ → Type 0
GroupSettles es group = (t u : Tree) → IsTree t → outcome es group t ≡ Some u → outcome es group u ≡ Some u

-- the two commute from the trees in which the folders stand that are sure before the one or before the other
abbrev pub CommuteWhereSure : List Program → (ℕ → ℕ → Type 0) → ℕ → ℕ → Type 0
CommuteWhereSure es before a b = CommuteFrom (IsTreeWith (IsSureBeforeEither nowhere es before a b)) (slice_index_or es a Id) (slice_index_or es b Id)

-- the program commutes so with each of the group
abbrev pub CommutesWithGroup : List Program → (ℕ → ℕ → Type 0) → List ℕ → ℕ → Type 0
CommutesWithGroup es before group b = AllByRecursion (λ a. CommuteWhereSure es before a b) group

-- the programs of each group commute so with those of the groups that run later
abbrev pub GroupsCommute : List Program → (ℕ → ℕ → Type 0) → List (List ℕ) → Type 0
GroupsCommute es before [] = Unit {0}
GroupsCommute es before (group ∷ groups) = AllByRecursion (CommutesWithGroup es before group) (in_turn groups) × GroupsCommute es before groups
