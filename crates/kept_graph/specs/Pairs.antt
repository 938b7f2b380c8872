-- What comes before what among some nodes.
use Rattle.std.specs.Prelude.{ℕ, Bool, List, slice_index_or}
use Rattle.orders.specs.Relation.{Relation, comes}

-- whether the node at one place of the list comes before that at another
abbrev pub comes_at : Relation → List ℕ → ℕ → ℕ → Bool
comes_at order nodes i j = comes order (slice_index_or nodes i 0) (slice_index_or nodes j 0)
