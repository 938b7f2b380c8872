-- The next move, as it is found.
use Rattle.std.specs.Prelude.{ℕ, Bool, not, ◌&&◌, ◌||◌, ◌==◌, List, Option, Some, None}
use Rattle.std.specs.List.{list_all, find}
use Rattle.orders.specs.Relation.{Relation, comes}
use Rattle.commute_prune.specs.Matrix.{cell}
use Rattle.commute_prune.specs.declared.search.End.{End}
use Rattle.commute_prune.specs.declared.search.End.TheVariants as end
use Rattle.sure_folders.specs.Pruning.{Move, ToFirst, ToLast}

-- neither program changes what the other one looks at
abbrev pub are_apart : List (List Bool) → ℕ → ℕ → Bool
are_apart rows i j = cell rows i j && cell rows j i

-- j doesn't come after k, and is k, or before it, or apart from it
abbrev pub lets_last : Relation → List (List Bool) → ℕ → ℕ → Bool
lets_last order rows k j = not (comes order k j) && ((j == k) || comes order j k || are_apart rows k j)

-- j doesn't come before k, and is k, or after it, or apart from it
abbrev pub lets_first : Relation → List (List Bool) → ℕ → ℕ → Bool
lets_first order rows k j = not (comes order j k) && ((j == k) || comes order k j || are_apart rows k j)

-- each of the kept ones lets k go last
abbrev pub may_last : Relation → List (List Bool) → List ℕ → ℕ → Bool
may_last order rows kept k = list_all (lets_last order rows k) kept

-- each of the kept ones lets k go first
abbrev pub may_first : Relation → List (List Bool) → List ℕ → ℕ → Bool
may_first order rows kept k = list_all (lets_first order rows k) kept

-- j lets k go to this end of the order
abbrev pub lets : End → Relation → List (List Bool) → ℕ → ℕ → Bool
lets end.First = lets_first
lets end.Last = lets_last

-- each of the kept ones lets k go there
abbrev pub may : End → Relation → List (List Bool) → List ℕ → ℕ → Bool
may e order rows kept k = list_all (lets e order rows k) kept

-- the first that may go last, else the first that may go first
abbrev pub or_first : Option ℕ → Option ℕ → Option Move
or_first (Some k) other = Some (ToLast k)
or_first None (Some k) = Some (ToFirst k)
or_first None None = None

-- the next move, if some of the kept ones may go first or last
abbrev pub next_move : Relation → List (List Bool) → List ℕ → Option Move
next_move order rows kept = or_first (find (may_last order rows kept) kept) (find (may_first order rows kept) kept)
