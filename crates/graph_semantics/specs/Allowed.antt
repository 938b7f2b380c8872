-- Orders of all nodes, and what they leave of the plain resources.
use Rattle.std.specs.Prelude.{◌≡◌, ◌<◌, ℕ, Bool, true, false, List, [], ◌∷◌, length, map, filter, slice_index, Option, Some, None}
use Rattle.std.specs.List.{AllByRecursion}
use Rattle.fs_semantics.specs.Orders.{times}
use Rattle.catalog_semantics.specs.declared.catalog.Resource.{Resource}
use Rattle.catalog_semantics.specs.Catalogs.{Catalog, is_plain_sort}
use Rattle.graph_semantics.specs.Relations.{real_at}
use Rattle.graph_semantics.specs.Graphs.{Node, Start, End, rank, IsContainerAt, Before}

-- the node of a real plain resource, or one of the two of a container
pub data IsNode (c : Catalog) (n : Node) : Type 0 where
  start : (place : ℕ) (r : Resource) → real_at c place ≡ Some r → n ≡ Start place → IsNode c n
  end : (place : ℕ) → IsContainerAt c place → n ≡ End place → IsNode c n

-- no node stands ahead of one that comes before it
abbrev pub NoneAhead : Catalog → List Node → Type 0
NoneAhead c [] = Unit {0}
NoneAhead c (b ∷ nodes) = AllByRecursion (λ a. Before c a b → ⊥) nodes × NoneAhead c nodes

-- An order that the whole graph allows: each node once, no other, and none ahead of one that comes before it.
pub record IsAllowed (c : Catalog) (nodes : List Node) : Type 0 where
  pub nodes_of : AllByRecursion (IsNode c) nodes
  pub once : (n : Node) → IsNode c n → times (rank n) (map rank nodes) ≡ 1
  pub kept : NoneAhead c nodes

-- a resource is there, and is plain
abbrev pub is_plain : Option Resource → Bool
is_plain None = false
is_plain (Some r) = is_plain_sort r.sort

-- the node is that of a real plain resource
abbrev pub is_plain_node : Catalog → Node → Bool
is_plain_node c (Start place) = is_plain (real_at c place)
is_plain_node c (End place) = false

-- what an order of nodes leaves of the plain resources
abbrev pub plain_part : Catalog → List Node → List Node
plain_part c nodes = filter (is_plain_node c) nodes

-- the plain resources with these numbers, as nodes
abbrev pub plain_nodes : List ℕ → List ℕ → List Node
plain_nodes plain order = map (λ i. Start (slice_index plain i)) order

-- The whole graph allows an order of all nodes in which the plain resources stand in this order.
pub record IsLeft (c : Catalog) (plain order : List ℕ) : Type 0 where
  pub below : AllByRecursion (λ i. i < length plain) order
  pub nodes : List Node
  pub allowed : IsAllowed c nodes
  pub part : plain_part c nodes ≡ plain_nodes plain order

-- A test tells which node comes before which.
abbrev pub Tells : Catalog → (Node → Node → Bool) → Type 0
Tells c test = (a b : Node) → IsNode c a → IsNode c b → (test a b ≡ true → Before c a b) × (Before c a b → test a b ≡ true)
