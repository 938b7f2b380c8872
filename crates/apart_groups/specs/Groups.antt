-- Groups of programs that commute with one another.
use Rattle.std.specs.Prelude.{◌≡◌, ◌⊎◌, ℕ, ◌<◌, ◌==◌, Bool, if◌then◌else◌, List, [], ◌∷◌, ◌++◌, length, slice_index_or}
use Rattle.std.specs.List.{AllByRecursion, Contains}
use Rattle.fs_semantics.specs.Programs.{Program}
use Rattle.fs_semantics.specs.Orders.{Told, IsLinearExtension}
use Rattle.settled_groups.specs.Groups.{in_turn, CommuteWhereSure, GroupsCommute}

-- The groups, one after the other, are an allowed order of all programs; and the programs of one commute with those of the others
-- where the folders stand that are sure before them.
pub record AreGroups (es : List Program) (before : ℕ → ℕ → Bool) (groups : List (List ℕ)) : Type 0 where
  pub allowed : IsLinearExtension (length es) (Told before) (in_turn groups)
  pub commute : GroupsCommute es (Told before) groups

-- Each two programs are a pair of the list, the lesser number first, or commute where the folders stand that are sure before them.
abbrev pub MeetIn : List Program → (ℕ → ℕ → Bool) → List (ℕ × ℕ) → Type 0
MeetIn es before pairs = (a b : ℕ) → a < b → b < length es → Contains pairs (a, b) ⊎ CommuteWhereSure es (Told before) a b

-- the pair, unless the number is its second
abbrev pub other_pair : ℕ → (ℕ × ℕ) → List (ℕ × ℕ)
other_pair second pair = if pair.1 == second then [] else pair ∷ []

-- the pairs of which it isn't
abbrev pub other_pairs : ℕ → List (ℕ × ℕ) → List (ℕ × ℕ)
other_pairs second [] = []
other_pairs second (pair ∷ pairs) = other_pair second pair ++ other_pairs second pairs

-- the number of a program's group
abbrev pub group_of : List ℕ → ℕ → ℕ
group_of numbers k = slice_index_or numbers k 0

-- the programs of each group have its number
abbrev pub AreNumbered : List ℕ → List (List ℕ) → Type 0
AreNumbered numbers groups = (i : ℕ) → i < length groups → AllByRecursion (λ k. group_of numbers k ≡ i) (slice_index_or groups i [])

-- the programs of the pair are of one group
abbrev pub IsWithin : List ℕ → (ℕ × ℕ) → Type 0
IsWithin numbers pair = group_of numbers pair.0 ≡ group_of numbers pair.1
