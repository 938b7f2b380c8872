-- Setting aside programs whose order doesn't matter.
use Rattle.std.specs.Prelude.{◌≡◌, ◌≢◌, ℕ, ◌<◌, ◌≤◌, List, [], ◌∷◌, ◌++◌, map, slice_index_or, length}
use Rattle.std.specs.List.{AllByRecursion}
use Rattle.fs_semantics.specs.FileTree.{Tree, IsTree}
use Rattle.fs_semantics.specs.Programs.{Program, Id}
use Rattle.fs_semantics.specs.Orders.{IsLinearExtension, times, outcome}
use Rattle.effect_sets.specs.Footprints.{footprint, AreApart}
use Rattle.sure_folders.specs.Pruning.{without, Move, ToFirst, ToLast, firsts, lasts, chosen, between}

-- the programs with these two numbers are apart
abbrev pub ApartAt : List Program → ℕ → ℕ → Type 0
ApartAt es j k = AreApart (footprint (slice_index_or es j Id)) (footprint (slice_index_or es k Id))

-- k is one of ks, none of these comes after it, and it is apart from every other one that isn't before it
pub record MayBeLast (es : List Program) (before : ℕ → ℕ → Type 0) (ks : List ℕ) (k : ℕ) : Type 0 where
  pub once : times k ks ≡ 1
  pub none_after : (j : ℕ) → 0 < times j ks → before k j → ⊥
  pub apart : (j : ℕ) → 0 < times j ks → j ≢ k → (before j k → ⊥) → ApartAt es k j

-- k is one of ks, none of these comes before it, and it is apart from every other one that isn't after it
pub record MayBeFirst (es : List Program) (before : ℕ → ℕ → Type 0) (ks : List ℕ) (k : ℕ) : Type 0 where
  pub once : times k ks ≡ 1
  pub none_before : (j : ℕ) → 0 < times j ks → before j k → ⊥
  pub apart : (j : ℕ) → 0 < times j ks → j ≢ k → (before k j → ⊥) → ApartAt es k j

-- these moves, one after the other, lead from all of ks to those that are kept
abbrev pub Leads : List Program → (ℕ → ℕ → Type 0) → List Move → List ℕ → List ℕ → Type 0
Leads es before [] ks kept = kept ≡ ks
Leads es before (ToFirst k ∷ moves) ks kept = MayBeFirst es before ks k × Leads es before moves (without k ks) kept
Leads es before (ToLast k ∷ moves) ks kept = MayBeLast es before ks k × Leads es before moves (without k ks) kept

-- P holds of k and of no lesser number
pub record IsLeast (P : ℕ → Type 0) (k : ℕ) : Type 0 where
  pub holds : P k
  pub least : (j : ℕ) → j < k → P j → ⊥

-- P holds of no number
abbrev pub Never : (ℕ → Type 0) → Type 0
Never P = (k : ℕ) → P k → ⊥

-- At each move the least that may go last goes; where none may, the least that may go first. What is kept may go neither way.
abbrev pub Prunes : List Program → (ℕ → ℕ → Type 0) → List Move → List ℕ → List ℕ → Type 0
Prunes es before [] ks kept = (kept ≡ ks) × Never (MayBeLast es before ks) × Never (MayBeFirst es before ks)
Prunes es before (ToFirst k ∷ moves) ks kept = Never (MayBeLast es before ks) × IsLeast (MayBeFirst es before ks) k
    × Prunes es before moves (without k ks) kept
Prunes es before (ToLast k ∷ moves) ks kept = IsLeast (MayBeLast es before ks) k × Prunes es before moves (without k ks) kept

-- numbers below n, each at most once
pub record AreSome (n : ℕ) (ks : List ℕ) : Type 0 where
  pub below : AllByRecursion (λ k. k < n) ks
  pub once : (k : ℕ) → times k ks ≤ 1
  pub few : length ks ≤ n

-- From every tree an order of all programs ends as what goes first, the kept programs in this order of theirs, and what goes last.
pub record EndsAsKept (es : List Program) (before : ℕ → ℕ → Type 0) (moves : List Move) (kept order : List ℕ) : Type 0 where
  pub rest : List ℕ
  pub allowed : IsLinearExtension (length (chosen es kept)) (between before kept) rest
  pub alike : (t : Tree) → IsTree t
      → outcome es order t ≡ outcome es (firsts moves ++ (map (λ i. slice_index_or kept i 0) rest ++ lasts moves)) t
