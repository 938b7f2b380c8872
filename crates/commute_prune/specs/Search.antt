-- How far the search for the next move has seen.
use Rattle.std.specs.Prelude.{◌≡◌, ◌↔◌, ℕ, ◌<◌, ◌≤◌, Bool, true, false, not, ◌&&◌, IsTrue, List, length, slice_index_or, replicate}
use Rattle.fs_semantics.specs.Orders.{times}
use Rattle.orders.specs.Relation.{Relation}
use Rattle.commute_prune.specs.declared.search.End.TheVariants as end
use Rattle.commute_prune.specs.declared.search.Search.{Search}
use Rattle.commute_prune.specs.Steps.{lets}

-- j is kept, and doesn't let k go
abbrev pub blocks : (ℕ → ℕ → Bool) → List Bool → ℕ → ℕ → Bool
blocks lets_go stays k j = slice_index_or stays j false && not (lets_go k j)

-- a number has a mark exactly where it is kept
abbrev pub AreMarked : List ℕ → List Bool → Type 0
AreMarked kept stays = (j : ℕ) → IsTrue (slice_index_or stays j false) ↔ (0 < times j kept)

-- Of each of n numbers, those of the kept ones that are less than what was noted for it let it go.
pub record IsSeen (lets_go : ℕ → ℕ → Bool) (n : ℕ) (kept seen : List ℕ) : Type 0 where
  pub long : length seen ≡ n
  pub few : (k : ℕ) → slice_index_or seen k 0 ≤ n
  pub passed : (k j : ℕ) → j < slice_index_or seen k 0 → 0 < times j kept → lets_go k j ≡ true

-- the marks are those of what is kept, and what was seen is so
pub record IsSearch (order : Relation) (rows : List (List Bool)) (kept : List ℕ) (s : Search) : Type 0 where
  pub long : length s.stays.items ≡ order.count
  pub marked : AreMarked kept s.stays.items
  pub first : IsSeen (lets end.First order rows) order.count kept s.first.items
  pub last : IsSeen (lets end.Last order rows) order.count kept s.last.items

-- all of n have marks, and nothing was noted
pub record IsNothingSeen (n : ℕ) (s : Search) : Type 0 where
  pub stays : s.stays.items ≡ replicate n true
  pub first : s.first.items ≡ replicate n 0
  pub last : s.last.items ≡ replicate n 0
