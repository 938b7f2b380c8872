-- A relation between the nodes 0, 1, .. below a count, as a finite table.
use Rattle.std.specs.Prelude.{ℕ, ◌+◌, ◌<◌, List, [], Bool, false, nat_lt, slice_index_or, IsTrue, if◌then◌else◌}

-- for each node a row with an entry for each node
pub record Relation : Type 0 where
  pub count : ℕ
  pub table : List (List Bool)

-- whether a comes before b
unfoldable pub comes : Relation → ℕ → ℕ → Bool
comes order a b = slice_index_or (slice_index_or order.table a []) b false

-- a comes before b
abbrev pub Comes : Relation → ℕ → ℕ → Type 0
Comes order a b = IsTrue (comes order a b)

-- only nodes below the count are related, none comes before itself, and what comes before comes before all that follows
pub record IsStrictOrder (order : Relation) : Type 0 where
  pub within : (a b : ℕ) → Comes order a b → (a < order.count) × (b < order.count)
  pub never_itself : (a : ℕ) → Comes order a a → ⊥
  pub transitive : (a b c : ℕ) → Comes order a b → Comes order b c → Comes order a c

-- the number that the k-th node had before node r was taken out
abbrev pub old_number : ℕ → ℕ → ℕ
old_number r k = if nat_lt k r then k else k + 1
