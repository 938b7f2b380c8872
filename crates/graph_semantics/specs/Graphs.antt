-- The graph of a catalog: what comes before what.
use Rattle.std.specs.Prelude.{◌≡◌, ◌↔◌, ◌<◌, ◌≤◌, ℕ, zero, suc, ◌+◌, ◌*◌, Bool, true, false, ◌&&◌, not, if◌then◌else◌, List, [], ◌∷◌, ◌++◌, length, map, codes, MatchOption, slice_get, slice_index}
use Rattle.std.specs.Prelude.{Option, Some, None}
use Rattle.std.specs.List.{AllByRecursion, Contains, flat_map}
use Rattle.rh_base.specs.declared.fault.Refusal.{Refusal}
use Rattle.printed_names.specs.Printed.{printed}
use Rattle.pp_value.specs.Shown.{shown_ref}
use Rattle.pp_eval.specs.Evaluating.{refusal}
use Rattle.fs_semantics.specs.Orders.{times}
use Rattle.catalog_semantics.specs.declared.catalog.Resource.{Resource}
use Rattle.catalog_semantics.specs.declared.catalog.Relation.{Relation}
use Rattle.catalog_semantics.specs.declared.catalog.Sort.{Sort}
use Rattle.catalog_semantics.specs.declared.catalog.Sort.TheVariants as sort
use Rattle.catalog_semantics.specs.declared.state.Holding.{Holding}
use Rattle.catalog_semantics.specs.Catalogs.{Catalog, is_plain_sort}
use Rattle.graph_semantics.specs.Relations.{real_at, metaparameter_relations, Relates, missing_target}
use Rattle.graph_semantics.specs.Automatic.{IsAutomatic}

-- ---- nodes

-- The start and the end of the resource at a place. A real plain resource is one node, its start; a class and a real
-- defined resource have both.
pub data Node : Type 0 where
  Start : ℕ → Node
  End : ℕ → Node

-- where a resource of this sort is done
abbrev pub last_node : Sort → ℕ → Node
last_node sort.Plain place = Start place
last_node sort.Defined place = End place
last_node sort.Class place = End place

-- a class or a real defined resource stands at the place
pub record IsContainerAt (c : Catalog) (place : ℕ) : Type 0 where
  pub resource : Resource
  pub real : real_at c place ≡ Some resource
  pub sort : is_plain_sort resource.sort ≡ false

-- ---- members

-- What stands at a place is in the container at another: the container's body declared it, or a class is contained there.
pub data IsMember (c : Catalog) (outer place : ℕ) : Type 0 where
  declared : (r : Resource) → real_at c place ≡ Some r → r.holder ≡ Some outer → IsMember c outer place
  contained : (h : Holding) → Contains c.holdings h → h.outer ≡ outer → h.class ≡ place → IsMember c outer place

-- ---- edges

-- the first resource is done before the second begins
pub record Leads (c : Catalog) (first second : ℕ) (a b : Node) : Type 0 where
  pub resource : Resource
  pub real : real_at c first ≡ Some resource
  pub from : a ≡ last_node resource.sort first
  pub to : b ≡ Start second

-- From each container's start to its end, from its start to each member, and from each member to its end; from what a
-- relation puts first to what it puts second; and the automatic ones.
pub data Edge (c : Catalog) (a b : Node) : Type 0 where
  whole : (place : ℕ) → IsContainerAt c place → a ≡ Start place → b ≡ End place → Edge c a b
  enters : (outer place : ℕ) (r : Resource) → IsContainerAt c outer → IsMember c outer place → real_at c place ≡ Some r
      → a ≡ Start outer → b ≡ Start place → Edge c a b
  leaves : (outer place : ℕ) (r : Resource) → IsContainerAt c outer → IsMember c outer place → real_at c place ≡ Some r
      → a ≡ last_node r.sort place → b ≡ End outer → Edge c a b
  metaparameter : (q : Relation) (first second : ℕ) → Contains (metaparameter_relations c) q → Relates c q first second
      → Leads c first second a b → Edge c a b
  arrow : (q : Relation) (first second : ℕ) → Contains c.relations q → Relates c q first second → Leads c first second a b → Edge c a b
  automatic : (first second : ℕ) → IsAutomatic c first second → a ≡ Start first → b ≡ Start second → Edge c a b

-- a path of at least one edge leads from a to b
pub data Before (c : Catalog) : Node → Node → Type 0 where
  edge : {a b : Node} → Edge c a b → Before c a b
  and_on : {a b : Node} (n : Node) → Edge c a n → Before c n b → Before c a b

-- ---- circles

-- edges lead from a to the first of these nodes, from each to the next, and from the last to b
abbrev pub Trail : Catalog → Node → List Node → Node → Type 0
Trail c a [] b = Edge c a b
Trail c a (n ∷ nodes) b = Edge c a n × Trail c n nodes b

-- how a node is written in a refusal
abbrev pub start_text : Option Resource → List ℕ
start_text None = []
start_text (Some r) = if is_plain_sort r.sort then shown_ref r.id else codes "start " ++ shown_ref r.id

abbrev pub end_text : Option Resource → List ℕ
end_text None = []
end_text (Some r) = codes "end " ++ shown_ref r.id

abbrev pub node_text : Catalog → Node → List ℕ
node_text c (Start place) = start_text (slice_get c.resources place)
node_text c (End place) = end_text (slice_get c.resources place)

-- the nodes with ` -> ` between them, the first once more at the end
abbrev pub circle_text : Catalog → Node → List Node → List ℕ
circle_text c first others = flat_map (λ n. node_text c n ++ codes " -> ") (first ∷ others) ++ node_text c first

-- the nodes in order of declaration, a start before its end
abbrev pub rank : Node → ℕ
rank (Start place) = 2 * place
rank (End place) = 2 * place + 1

-- The refusal tells a circle, which edges lead around, from the node of it that was declared first.
pub record IsCircleRefusal (c : Catalog) (x : Refusal) : Type 0 where
  pub first : Node
  pub others : List Node
  pub closed : Trail c first others first
  pub least : AllByRecursion (λ n. rank first ≤ rank n) others
  pub once : (k : ℕ) → times k (map rank (first ∷ others)) ≤ 1
  pub is : x ≡ refusal 41 0 (circle_text c first others)

-- A graph may be refused: for the first reference to nothing, or else for a circle.
abbrev pub IsGraphRefusal : Catalog → Refusal → Type 0
IsGraphRefusal c x = MatchOption (missing_target c) (IsCircleRefusal c x) (λ y. x ≡ y)

-- ---- the order of the plain resources

-- the places of the real plain resources in order of declaration, where those given are counted from n on
abbrev pub plain_from : ℕ → List Resource → List ℕ
plain_from n [] = []
plain_from n (r ∷ resources) =
    if is_plain_sort r.sort && not r.is_virtual then n ∷ plain_from (n + 1) resources else plain_from (n + 1) resources

-- the places of the real plain resources of a catalog
abbrev pub plain_places : Catalog → List ℕ
plain_places c = plain_from 0 c.resources

-- These are the real plain resources, and one of them comes before another where the graph leads from it to the other.
pub record IsGraphOf (c : Catalog) (plain : List ℕ) (before : ℕ → ℕ → Type 0) : Type 0 where
  pub places : plain ≡ plain_places c
  pub paths : (i j : ℕ) → i < length plain → j < length plain
      → before i j ↔ Before c (Start (slice_index plain i)) (Start (slice_index plain j))
  -- nothing is missing, and no node comes before itself
  pub complete : missing_target c ≡ None
  pub acyclic : (n : Node) → Before c n n → ⊥

-- ---- the text of a graph

-- the reference of a resource, as it is shown
abbrev pub reference_of : Option Resource → List ℕ
reference_of None = []
reference_of (Some r) = shown_ref r.id

-- the reference of the resource at a place
abbrev pub reference_at : Catalog → ℕ → List ℕ
reference_at c place = reference_of (slice_get c.resources place)

-- the same as it is printed
abbrev pub printed_at : Catalog → ℕ → List ℕ
printed_at c place = printed (reference_at c place)

-- a line for each plain resource
abbrev pub resource_lines : Catalog → List ℕ → List ℕ
resource_lines c plain = flat_map (λ place. printed_at c place ++ codes "\n") plain

-- the line of a pair, if the one comes before the other
abbrev pub pair_line : Bool → List ℕ → List ℕ → List ℕ
pair_line false left right = []
pair_line true left right = left ++ (codes " -> " ++ (right ++ codes "\n"))

-- the lines of those that come after one, among the first n
abbrev pub pair_lines : Catalog → List ℕ → (ℕ → ℕ → Bool) → ℕ → ℕ → List ℕ
pair_lines c plain before i zero = []
pair_lines c plain before i (suc j) = pair_lines c plain before i j ++ pair_line (before i j)
    (printed_at c (slice_index plain i)) (printed_at c (slice_index plain j))

-- of the first n, each with those that come after it
abbrev pub order_lines : Catalog → List ℕ → (ℕ → ℕ → Bool) → ℕ → List ℕ
order_lines c plain before zero = []
order_lines c plain before (suc i) = order_lines c plain before i ++ pair_lines c plain before i (length plain)

-- The plain resources in order of declaration, and then each pair of which one comes before the other, a line for each.
abbrev pub graph_text : Catalog → List ℕ → (ℕ → ℕ → Bool) → List ℕ
graph_text c plain before = resource_lines c plain ++ order_lines c plain before (length plain)
