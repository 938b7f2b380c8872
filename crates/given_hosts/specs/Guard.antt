-- The program that lets a run begin only where the given folders stand.
use Rattle.std.specs.Prelude.{◌≡◌, ◌↔◌, ℕ, ◌<◌, ◌≤◌, nat_lt, ◌==◌, Bool, ◌&&◌, ◌||◌, IsTrue, List, [], ◌∷◌, ◌++◌, slice_index_or, Some}
use Rattle.fs_semantics.specs.FileTree.{Path, Tree}
use Rattle.fs_semantics.specs.Programs.{IsDir, Program, Programs, Id, Err, Mkdir, Steps, If, none, next, run}
use Rattle.given_hosts.specs.Given.{Stand}

-- ends in Error where the folder doesn't stand, and else changes nothing: a folder that was found is made sure of, so that it counts
-- among the folders that are sure behind the program
abbrev pub need : Path → Program
need p = Steps (next (If (IsDir p) Id Err) (next (If (IsDir p) Id (Mkdir p)) none))

-- the same of each of these folders, one after the other
abbrev pub need_all : List Path → Programs
need_all [] = none
need_all (p ∷ ps) = next (need p) (need_all ps)

-- does nothing where the given folders stand, and ends in Error where one doesn't
abbrev pub guard : List Path → Program
guard given = Steps (need_all given)

-- the programs, and behind them the guard
abbrev pub guarded : List Path → List Program → List Program
guarded given es = es ++ guard given ∷ []

-- n comes before each number below it, and none comes before n; between others all is as before
abbrev pub guard_before : ℕ → (ℕ → ℕ → Bool) → ℕ → ℕ → Bool
guard_before n before a b = nat_lt b n && ((a == n) || before a b)

-- After: n, too, comes before each number below it, and none comes before n. Between others all is as before.
pub record GoesFirst (n : ℕ) (before after : ℕ → ℕ → Bool) : Type 0 where
  pub first : (b : ℕ) → b < n → IsTrue (after n b)
  pub never_behind : (a : ℕ) → a ≤ n → IsTrue (after a n) → ⊥
  pub others : (a b : ℕ) → a < n → b < n → IsTrue (after a b) ↔ IsTrue (before a b)

-- ---- second runs

-- the programs with these numbers, one after the other
abbrev pub steps_in : List Program → List ℕ → Programs
steps_in es [] = none
steps_in es (i ∷ o) = next (slice_index_or es i Id) (steps_in es o)

-- a first run as one program: the guard, and then the programs in this order
abbrev pub first_run : List Path → List Program → List ℕ → Program
first_run given es o = Steps (next (guard given) (steps_in es o))

-- the programs, and behind them a first run
abbrev pub after_first : List Path → List Program → List ℕ → List Program
after_first given es o = es ++ first_run given es o ∷ []

-- where the given folders stand, they stand after the program too
abbrev pub KeepsGiven : List Path → Program → Type 0
KeepsGiven given e = (t u : Tree) → Stand given t → run e t ≡ Some u → Stand given u
