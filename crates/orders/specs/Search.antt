-- A search through a graph, depth first: what its arrays mean.
use Rattle.std.specs.Prelude.{◌≡◌, ℕ, zero, suc, ◌+◌, ◌-◌, ◌*◌, ◌<◌, ◌≤◌, ◌==◌, List, [], ◌∷◌, ◌++◌, Bool, true, false, not, ◌&&◌, length, slice_index, slice_index_or, slice_set, take, if◌then◌else◌}
use Rattle.orders.specs.declared.search.Search.{Search}
use Rattle.orders.specs.Paths.{HasEdge, Path}
use Rattle.orders.specs.Table.{width_of, cell}
use Rattle.orders.specs.Counting.{count_false}
use Rattle.fs_semantics.specs.Orders.{times}

-- where edge k begins, and where it ends
abbrev pub source : List (ℕ × ℕ) → ℕ → ℕ
source edges k = (slice_index_or edges k (0, 0)).0

abbrev pub target : List (ℕ × ℕ) → ℕ → ℕ
target edges k = (slice_index_or edges k (0, 0)).1

-- one more than the last of the first i edges that begins at a, or 0
abbrev pub latest : List (ℕ × ℕ) → ℕ → ℕ → ℕ
latest edges a zero = 0
latest edges a (suc i) = if source edges i == a then suc i else latest edges a i

-- the edges in chains, one for each node: the chain of a begins at its last edge, and each edge leads to the one before it
pub record AreLinks (n : ℕ) (edges : List (ℕ × ℕ)) (heads nexts : List ℕ) : Type 0 where
  pub heads_len : length heads ≡ n
  pub nexts_len : length nexts ≡ length edges
  pub heads_are : (a : ℕ) → a < n → slice_index heads a ≡ latest edges a (length edges)
  pub nexts_are : (k : ℕ) → k < length edges → slice_index nexts k ≡ latest edges (source edges k) k

-- the arrays of a search: for each node the edge that comes next, whether it was entered, whether it is done; the nodes in work; the bits found
pub record State : Type 0 where
  pub cursors : List ℕ
  pub entered : List Bool
  pub done : List Bool
  pub stack : List ℕ
  pub words : List ℕ

-- the state of a search of the code
abbrev pub state_of : Search → State
state_of s = record { cursors = s.cursors.items; entered = s.entered.items; done = s.done.items; stack = s.stack.items; words = s.words.items }

-- an edge leads from each to the next
abbrev pub AreLinked : List (ℕ × ℕ) → List ℕ → Type 0
AreLinked edges [] = Unit {0}
AreLinked edges (a ∷ []) = Unit {0}
AreLinked edges (a ∷ b ∷ nodes) = HasEdge edges a b × AreLinked edges (b ∷ nodes)

-- edge k has been followed: its end is done, and all that is found there is found from its beginning
pub record IsFollowed (n : ℕ) (edges : List (ℕ × ℕ)) (s : State) (k : ℕ) : Type 0 where
  pub done : slice_index_or s.done (target edges k) false ≡ true
  pub found : cell (width_of n) s.words (source edges k) (target edges k) ≡ true
  pub all_found : (x : ℕ) → x < n → cell (width_of n) s.words (target edges k) x ≡ true
      → cell (width_of n) s.words (source edges k) x ≡ true

-- What holds between two steps of a search.
pub record IsSearch (n : ℕ) (edges : List (ℕ × ℕ)) (s : State) : Type 0 where
  pub cursors_len : length s.cursors ≡ n
  pub entered_len : length s.entered ≡ n
  pub done_len : length s.done ≡ n
  pub words_len : length s.words ≡ n * width_of n
  -- a bit is set only where a path leads
  pub sound : (a b : ℕ) → a < n → b < n → cell (width_of n) s.words a b ≡ true → Path edges a b
  -- a cursor stands at an edge of its node, and those behind it have been followed
  pub cursor_within : (a : ℕ) → a < n → slice_index s.cursors a ≤ length edges
  pub cursor_own : (a i : ℕ) → a < n → slice_index s.cursors a ≡ suc i → source edges i ≡ a
  pub followed : (k : ℕ) → k < length edges → slice_index s.cursors (source edges k) ≤ k → IsFollowed n edges s k
  pub done_at_end : (a : ℕ) → slice_index_or s.done a false ≡ true → slice_index s.cursors a ≡ 0
  -- no path leads from a node that is done to itself
  pub acyclic : (a : ℕ) → slice_index_or s.done a false ≡ true → Path edges a a → ⊥
  -- the nodes in work are those that were entered and aren't done, each once
  pub in_work : (k : ℕ) → times k s.stack ≡ (if slice_index_or s.entered k false && not (slice_index_or s.done k false) then 1 else 0)
  pub linked : AreLinked edges s.stack
  pub done_entered : (k : ℕ) → slice_index_or s.done k false ≡ true → slice_index_or s.entered k false ≡ true

-- the numbers of a list added up
abbrev pub total : List ℕ → ℕ
total [] = 0
total (n ∷ list) = n + total list

-- what is left to do, at most
abbrev pub work : State → ℕ
work s = total s.cursors + 2 * count_false s.entered + length s.stack

-- b has been entered
abbrev pub entering : ℕ → State → State
entering b s = record s { entered = slice_set s.entered b true; stack = s.stack ++ b ∷ [] }

-- all edges of the node that is on top are done with
abbrev pub finishing : ℕ → State → State
finishing top s = record s { done = slice_set s.done top true; stack = take (length s.stack - 1) s.stack }

-- a search before its first step
pub record IsFresh (n : ℕ) (heads : List ℕ) (s : State) : Type 0 where
  pub cursors : s.cursors ≡ heads
  pub entered_len : length s.entered ≡ n
  pub entered : (k : ℕ) → slice_index_or s.entered k false ≡ false
  pub done_len : length s.done ≡ n
  pub done : (k : ℕ) → slice_index_or s.done k false ≡ false
  pub stack : s.stack ≡ []
  pub words_len : length s.words ≡ n * width_of n
  pub words : (a b : ℕ) → cell (width_of n) s.words a b ≡ false
