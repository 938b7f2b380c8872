-- The trail, which is the assignment: the literals that hold.
use Rattle.std.specs.Prelude.{◌≡◌, ◌⊎◌, ℕ, zero, suc, ◌*◌, ◌/◌, ◌<◌, ◌≤◌, ◌^◌, Bool, true, false, List, length, map, slice_index, slice_index_or, Option, None, Some}
use Rattle.unit_propagation.specs.Literals.{opposite, has}

-- how many variables there are; the literals that hold, in the order in which they were set; for each its reason, the clause that
-- gave it, which a decision hasn't; where the levels begin; and how many literals were propagated
pub record Way : Type 0 where
  pub vars : ℕ
  pub literals : List ℕ
  pub reasons : List (Option ℕ)
  pub starts : List ℕ
  pub done : ℕ

-- the reason of the literal at a place
abbrev pub reason_at : Way → ℕ → Option ℕ
reason_at t p = slice_index_or t.reasons p None

-- the reason that a number is kept for: the clause that has this number in the log, where they count from 1, or none for 0
abbrev pub reason_of : ℕ → Option ℕ
reason_of zero = None
reason_of (suc n) = Some n

-- the trail of these, with a place for each variable and a number for each reason
abbrev pub way : List ℕ → List ℕ → List ℕ → List ℕ → ℕ → Way
way places literals numbers starts done = record {
  vars = length places;
  literals = literals;
  reasons = map reason_of numbers;
  starts = starts;
  done = done;
}

-- no two of the literals are of one variable
abbrev pub IsApart : List ℕ → Type 0
IsApart literals = (p q : ℕ) → p < length literals → q < length literals → slice_index literals p / 2 ≡ slice_index literals q / 2 → p ≡ q

-- each variable has a value
abbrev pub IsFull : Way → Type 0
IsFull t = (i : ℕ) → i < t.vars → (has t.literals (2 * i) ≡ true) ⊎ (has t.literals (opposite (2 * i)) ≡ true)

-- the places rise, and each is below the end
abbrev pub Rising : List ℕ → ℕ → Type 0
Rising starts end = (k : ℕ) → k < length starts → (slice_index starts k < end)
    × ((j : ℕ) → j < k → slice_index starts j < slice_index starts k)

-- the marks and the places are those of the literals that hold, of which no two are of one variable
pub record IsKept (holds : List Bool) (places literals numbers starts : List ℕ) (done : ℕ) : Type 0 where
  pub small : length places ≤ 2 ^ 31
  pub long_holds : length holds ≡ 2 * length places
  pub long_reasons : length numbers ≡ length literals
  pub short : length literals < 2 ^ 32
  pub within : (p : ℕ) → p < length literals → slice_index literals p < 2 * length places
  pub marks : (w : ℕ) → slice_index_or holds w false ≡ has literals w
  pub placed : (p : ℕ) → p < length literals → slice_index places (slice_index literals p / 2) ≡ p
  pub rising : Rising starts (length literals)
  pub reached : done ≤ length literals
