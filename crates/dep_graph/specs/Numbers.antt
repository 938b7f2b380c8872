-- The numbers of nodes.
use Rattle.std.specs.Prelude.{ℕ, Bool, Option, Some, None, is_some, slice_get}
use Rattle.catalog_semantics.specs.declared.catalog.Resource.{Resource}
use Rattle.catalog_semantics.specs.Catalogs.{Catalog}
use Rattle.graph_semantics.specs.Relations.{real_at}
use Rattle.graph_semantics.specs.Graphs.{Node, Start, last_node}

-- where the resource at a place is done
abbrev pub last_of : Option Resource → ℕ → Node
last_of None place = Start place
last_of (Some r) place = last_node r.sort place

-- where what stands at a place is done
abbrev pub last_at : Catalog → ℕ → Node
last_at c place = last_of (slice_get c.resources place) place

-- something real stands at the place
abbrev pub is_real : Catalog → ℕ → Bool
is_real c place = is_some (real_at c place)
