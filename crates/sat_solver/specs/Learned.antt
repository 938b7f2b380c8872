-- Learned clauses: what makes one new, and what has to hold where it is added and watched.
use Rattle.std.specs.Prelude.{◌≡◌, ◌⊎◌, ℕ, ◌+◌, ◌*◌, ◌^◌, ◌<◌, true, false, List, [], ◌∷◌, ◌++◌, length, take, slice_index, slice_index_or, slice_set}
use Rattle.unit_propagation.specs.Literals.{opposite, has}
use Rattle.unit_propagation.specs.Trails.{Way}
use Rattle.unit_propagation.specs.declared.watches.Watcher.{Watcher}
use Rattle.unit_propagation.specs.Watching.{IsOnce, IsFree, AtRest}

-- a clause that unit propagation misses (not absorbed): at a set where it had come to its end, the clause is unit
pub record IsMissed (f : List (List ℕ)) (c : List ℕ) : Type 0 where
  pub set : List ℕ
  pub consistent : (x : ℕ) → has set x ≡ true → has set (opposite x) ≡ true → ⊥
  pub at_rest : AtRest f set
  pub absent : (x : ℕ) → has c x ≡ true → has set x ≡ false
  pub literal : ℕ
  pub stands : has c literal ≡ true
  pub free : IsFree set literal
  pub only : (x : ℕ) → has c x ≡ true → IsFree set x → x ≡ literal

-- an asserting clause: one literal became false at the last level, which begins at this place, and the others were false before
pub record IsAsserting (t : Way) (start : ℕ) (c : List ℕ) : Type 0 where
  pub literal : ℕ
  pub stands : has c literal ≡ true
  pub late : has (take start t.literals) (opposite literal) ≡ false
  pub false_now : has t.literals (opposite literal) ≡ true
  pub others : (x : ℕ) → has c x ≡ true → (x ≡ literal) ⊎ (has (take start t.literals) (opposite x) ≡ true)

-- An asserting clause that may be added, after the jump back: its first literal is unassigned, its others are false, and the
-- second is one that became false last: it stands at no earlier level.
pub record IsAddable (f : List (List ℕ)) (t : Way) (c : List ℕ) : Type 0 where
  pub few : length f + 1 < 2 ^ 32
  pub some : 0 < length c
  pub within : (x : ℕ) → has c x ≡ true → x < 2 * t.vars
  pub once : IsOnce c
  pub free : IsFree t.literals (slice_index c 0)
  pub others : (x : ℕ) → has c x ≡ true → (x ≡ slice_index c 0) ⊎ (has t.literals (opposite x) ≡ true)
  pub last : (k : ℕ) → k < length t.starts → has (take (slice_index t.starts k) t.literals) (opposite (slice_index c 1)) ≡ false
  pub short : length c < 2 → t.starts ≡ []

-- the lists with one more watcher of a literal
abbrev pub pushing : List (List Watcher) → ℕ → Watcher → List (List Watcher)
pushing w x v = slice_set w x (slice_index_or w x [] ++ v ∷ [])

-- the lists with a clause that is watched by two literals
abbrev pub watching : List (List Watcher) → ℕ → ℕ → ℕ → List (List Watcher)
watching w n x y = pushing (pushing w x (record { clause = n; blocker = y })) y (record { clause = n; blocker = x })
