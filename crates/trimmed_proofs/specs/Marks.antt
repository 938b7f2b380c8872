-- Which steps are marked, and the numbers that the marked ones get.
use Rattle.std.specs.Prelude.{◌≡◌, ◌||◌, ◌⊎◌, nat_le, ℕ, ◌+◌, ◌-◌, ◌<◌, ◌≤◌, Bool, true, false, if◌then◌else◌}
use Rattle.std.specs.Prelude.{List, [], ◌∷◌, length, map, slice_get, slice_index_or, Some}
use Rattle.cnf.specs.declared.log.Link.{Link}
use Rattle.cnf.specs.declared.log.Step.{Step}
use Rattle.trimmed_proofs.specs.Trimmed.{names}

-- whether the step at a place is marked
abbrev pub is_marked : List Bool → ℕ → Bool
is_marked marks j = slice_index_or marks j false

-- the steps behind so many clauses whose numbers pass the test are marked besides
pub record MarksMore (count : ℕ) (old new : List Bool) (test : ℕ → Bool) : Type 0 where
  pub long : length new ≡ length old
  pub marks : (j : ℕ) → j < length old → is_marked new j ≡ (is_marked old j || test (count + j + 1))

-- each of the steps behind so many clauses names clauses ahead of it
abbrev pub NameEarlier : ℕ → List Step → Type 0
NameEarlier count steps = (j k : ℕ) (s : Step) → slice_get steps j ≡ Some s → names k s ≡ true → k ≤ count + j

-- the step at a place is named by a marked one behind it
pub record IsNamedBehind (count : ℕ) (steps : List Step) (marks : List Bool) (j : ℕ) : Type 0 where
  pub place : ℕ
  pub step : Step
  pub behind : j < place
  pub at : slice_get steps place ≡ Some step
  pub marked : is_marked marks place ≡ true
  pub named : names (count + j + 1) step ≡ true

-- The last step is marked, and from a place on each step that a marked one names; and of the others nothing is marked that no
-- marked one behind it names.
pub record AreMarkedFrom (count : ℕ) (steps : List Step) (i : ℕ) (marks : List Bool) : Type 0 where
  pub long : length marks ≡ length steps
  pub last : is_marked marks (length steps - 1) ≡ true
  pub closed : (j k : ℕ) (s : Step) → i ≤ j → slice_get steps j ≡ Some s → is_marked marks j ≡ true
      → names k s ≡ true → count < k → is_marked marks (k - count - 1) ≡ true
  pub used : (j : ℕ) → is_marked marks j ≡ true → (j + 1 ≡ length steps) ⊎ IsNamedBehind count steps marks j

-- the numbers of marked steps behind so many clauses, and 0 for the others
abbrev pub numbers_from : ℕ → List Bool → List ℕ
numbers_from last [] = []
numbers_from last (true ∷ marks) = (last + 1) ∷ numbers_from (last + 1) marks
numbers_from last (false ∷ marks) = 0 ∷ numbers_from last marks

-- the number that a clause has afterwards: those of the formula keep theirs
abbrev pub new_number : ℕ → List ℕ → ℕ → ℕ
new_number count numbers k = if nat_le k count then k else slice_index_or numbers (k - count - 1) 0

-- a link that names by new numbers
abbrev pub renamed_link : (ℕ → ℕ) → Link → Link
renamed_link ren link = record { number = ren link.number; pivot = link.pivot }

-- a step that names by new numbers
abbrev pub renamed_step : (ℕ → ℕ) → Step → Step
renamed_step ren step = record { clause = step.clause; start = ren step.start; chain = map (renamed_link ren) step.chain }

-- the marked ones of some steps, which name by new numbers
abbrev pub kept : (ℕ → ℕ) → List Step → List Bool → List Step
kept ren [] marks = []
kept ren (s ∷ steps) [] = []
kept ren (s ∷ steps) (true ∷ marks) = renamed_step ren s ∷ kept ren steps marks
kept ren (s ∷ steps) (false ∷ marks) = kept ren steps marks
