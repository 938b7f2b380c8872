-- Two watched literals: clauses watch their first two literals; and what holds while the trail is propagated.
use Rattle.std.specs.Prelude.{◌≡◌, ◌⊎◌, ℕ, ◌*◌, ◌^◌, ◌<◌, ◌≤◌, ◌==◌, Bool, true, false, List, [], ◌∷◌, ◌++◌, length, take, slice_index, slice_index_or, Option, Some, None}
use Rattle.std.specs.List.{AllByRecursion, list_any}
use Rattle.unit_propagation.specs.Literals.{opposite, has}
use Rattle.unit_propagation.specs.Trails.{Way, reason_at}
use Rattle.unit_propagation.specs.declared.watches.Watcher.{Watcher}

-- the clause with an index
abbrev pub clause : List (List ℕ) → ℕ → List ℕ
clause f n = slice_index_or f n []

-- a list of watchers names the clause
abbrev pub names : List Watcher → ℕ → Bool
names list n = list_any (λ v. n == v.clause) list

-- some literal of the clause holds
pub record Meets (c t : List ℕ) : Type 0 where
  pub literal : ℕ
  pub stands : has c literal ≡ true
  pub holds : has t literal ≡ true

-- Where one of the two watched literals is false by the literals that were propagated, some literal of the clause holds.
-- A clause of one literal has it hold.
pub record IsQuiet (done t c : List ℕ) : Type 0 where
  pub watched : (s : ℕ) → s < 2 → s < length c → has done (opposite (slice_index c s)) ≡ true → Meets c t
  pub short : length c < 2 → Meets c t

-- a watcher names a clause of two literals at least, and its blocker is one of them
pub record IsEntry (f : List (List ℕ)) (v : Watcher) : Type 0 where
  pub there : v.clause < length f
  pub two : 2 ≤ length (clause f v.clause)
  pub stands : has (clause f v.clause) v.blocker ≡ true

-- the clause gave this literal, of which it is the reason (antecedent): its other literals were false ahead of it
pub record Gives (f : List (List ℕ)) (ahead : List ℕ) (literal n : ℕ) : Type 0 where
  pub there : n < length f
  pub stands : has (clause f n) literal ≡ true
  pub others : (x : ℕ) → has (clause f n) x ≡ true → (x ≡ literal) ⊎ (has ahead (opposite x) ≡ true)

-- a conflict: all literals of the clause are false
pub record IsFalse (f : List (List ℕ)) (t : List ℕ) (n : ℕ) : Type 0 where
  pub there : n < length f
  pub all : (x : ℕ) → has (clause f n) x ≡ true → has t (opposite x) ≡ true

-- no literal stands twice
abbrev pub IsOnce : List ℕ → Type 0
IsOnce c = (i j : ℕ) → i < length c → j < length c → slice_index c i ≡ slice_index c j → i ≡ j

-- What each change keeps: clauses over the variables, a trail without contradiction whose literals have their reasons,
-- watchers that name clauses; and ahead of each decision unit propagation had come to its end.
pub record IsSound (f : List (List ℕ)) (t : Way) (w : List (List Watcher)) : Type 0 where
  pub few : length f < 2 ^ 32
  pub long : length w ≡ 2 * t.vars
  pub within : (n x : ℕ) → n < length f → has (clause f n) x ≡ true → x < 2 * t.vars
  pub once : (n : ℕ) → n < length f → IsOnce (clause f n)
  pub below : (x : ℕ) → has t.literals x ≡ true → x < 2 * t.vars
  pub consistent : (x : ℕ) → has t.literals x ≡ true → has t.literals (opposite x) ≡ true → ⊥
  pub long_reasons : length t.reasons ≡ length t.literals
  pub reasons : (p n : ℕ) → p < length t.literals → reason_at t p ≡ Some n
      → Gives f (take p t.literals) (slice_index t.literals p) n
  pub driven : (p : ℕ) → p < length t.literals → ((k : ℕ) → k < length t.starts → slice_index t.starts k ≡ p → ⊥)
      → reason_at t p ≡ None → ⊥
  pub starts : (k : ℕ) → k < length t.starts → slice_index t.starts k ≤ length t.literals
  pub settled : (k n : ℕ) → k < length t.starts → n < length f
      → IsQuiet (take (slice_index t.starts k) t.literals) (take (slice_index t.starts k) t.literals) (clause f n)
  pub entries : (x : ℕ) → AllByRecursion (IsEntry f) (slice_index_or w x [])

-- each clause of two literals at least is named by the lists of its first two
abbrev pub IsListed : List (List ℕ) → List (List Watcher) → Type 0
IsListed f w = (n s : ℕ) → n < length f → s < 2 → 2 ≤ length (clause f n)
    → names (slice_index_or w (slice_index (clause f n) s) []) n ≡ true

-- The invariant of two watched literals, between two literals that are propagated.
pub record IsReady (f : List (List ℕ)) (t : Way) (w : List (List Watcher)) : Type 0 where
  pub sound : IsSound f t w
  pub listed : IsListed f w
  pub reached : t.done ≤ length t.literals
  pub quiet : (n : ℕ) → n < length f → IsQuiet (take t.done t.literals) t.literals (clause f n)

-- While the watchers of a literal are gone through, which became false: those in front stay, the rest is still to come.
pub record IsScanning (before : List ℕ) (f : List (List ℕ)) (t : Way) (w : List (List Watcher))
    (front rest : List Watcher) (literal : ℕ) (conflict : Option ℕ) : Type 0 where
  pub sound : IsSound f t w
  pub fronts : AllByRecursion (IsEntry f) front
  pub rests : AllByRecursion (IsEntry f) rest
  pub listed : (n s : ℕ) → n < length f → s < 2 → 2 ≤ length (clause f n)
      → (names (slice_index_or w (slice_index (clause f n) s) []) n ≡ true)
      ⊎ ((slice_index (clause f n) s ≡ literal) × ((names front n ≡ true) ⊎ (names rest n ≡ true)))
  pub held : (x : ℕ) → has before x ≡ true → has t.literals x ≡ true
  pub quiet : (n : ℕ) → n < length f → IsQuiet before t.literals (clause f n)
  pub seen : conflict ≡ None → (n s : ℕ) → n < length f → s < 2 → s < length (clause f n)
      → slice_index (clause f n) s ≡ literal → Meets (clause f n) t.literals ⊎ (names rest n ≡ true)
  pub is_false : has t.literals (opposite literal) ≡ true
  pub reached : t.done ≤ length t.literals
  pub ahead : take t.done t.literals ≡ before ++ opposite literal ∷ []
  pub taken : slice_index_or w literal [] ≡ []
  pub found : (n : ℕ) → conflict ≡ Some n → IsFalse f t.literals n

-- the trail with one more literal, which a clause gave
abbrev pub with_literal : Way → ℕ → ℕ → Way
with_literal t x n = record {
  vars = t.vars;
  literals = t.literals ++ x ∷ [];
  reasons = t.reasons ++ Some n ∷ [];
  starts = t.starts;
  done = t.done;
}

-- the same, for some literals that were propagated before
abbrev pub Scanning : List (List ℕ) → Way → List (List Watcher) → List Watcher → List Watcher → ℕ → Option ℕ → Type 0
Scanning f t w front rest literal conflict = (before : List ℕ) × IsScanning before f t w front rest literal conflict

-- propagation ended in a conflict: all literals of a clause are false
pub record IsStopped (f : List (List ℕ)) (t : Way) (w : List (List Watcher)) (n : ℕ) : Type 0 where
  pub sound : IsSound f t w
  pub listed : IsListed f w
  pub found : IsFalse f t.literals n

-- neither the literal nor its opposite holds
abbrev pub IsFree : List ℕ → ℕ → Type 0
IsFree t x = (has t x ≡ false) × (has t (opposite x) ≡ false)

-- two literals of the clause are unassigned
pub record TwoFree (c t : List ℕ) : Type 0 where
  pub one : ℕ
  pub two : ℕ
  pub differ : one ≡ two → ⊥
  pub one_stands : has c one ≡ true
  pub two_stands : has c two ≡ true
  pub one_free : IsFree t one
  pub two_free : IsFree t two

-- unit propagation finds nothing more: each clause has a literal that holds, or two that are unassigned
abbrev pub AtRest : List (List ℕ) → List ℕ → Type 0
AtRest f t = (n : ℕ) → n < length f → Meets (clause f n) t ⊎ TwoFree (clause f n) t

-- Clauses keep their literals, and the trail grows.
pub record Extends (f : List (List ℕ)) (t : Way) (f2 : List (List ℕ)) (t2 : Way) : Type 0 where
  pub count : length f2 ≡ length f
  pub into : (n x : ℕ) → has (clause f n) x ≡ true → has (clause f2 n) x ≡ true
  pub back : (n x : ℕ) → has (clause f2 n) x ≡ true → has (clause f n) x ≡ true
  pub vars : t2.vars ≡ t.vars
  pub starts : t2.starts ≡ t.starts
  pub more : List ℕ
  pub literals : t2.literals ≡ t.literals ++ more

-- the same, while one literal is propagated
pub record Continues (f : List (List ℕ)) (t : Way) (f2 : List (List ℕ)) (t2 : Way) : Type 0 where
  pub extends : Extends f t f2 t2
  pub done : t2.done ≡ t.done

-- the trail after a jump back: as it was where a level began
abbrev pub back_to : Way → ℕ → Way
back_to t k = record {
  vars = t.vars;
  literals = take (slice_index t.starts k) t.literals;
  reasons = take (slice_index t.starts k) t.reasons;
  starts = take k t.starts;
  done = slice_index t.starts k;
}
