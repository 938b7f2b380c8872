-- Edges between nodes by their numbers.
use Rattle.std.specs.Prelude.{ℕ, zero, suc, ◌+◌, ◌*◌, Bool, ◌&&◌, nat_lt, if◌then◌else◌, List, [], ◌∷◌, ◌++◌, map, length, Option, Some, None}
use Rattle.std.specs.List.{flat_map}
use Rattle.catalog_semantics.specs.declared.catalog.Resource.{Resource}
use Rattle.catalog_semantics.specs.Catalogs.{Catalog, is_plain_sort}
use Rattle.catalog.specs.Members.{members_of}
use Rattle.graph_semantics.specs.Relations.{real_at}
use Rattle.graph_semantics.specs.Graphs.{rank}
use Rattle.dep_graph.specs.Numbers.{last_at, is_real}
use Rattle.dep_graph.specs.declared.links.Link.{Link}
use Rattle.dep_graph.specs.declared.joined.TheConstants.{FEW}

-- ---- containers

-- to a member and from it, if it is real
abbrev pub member_edges : Catalog → ℕ → ℕ → List (ℕ × ℕ)
member_edges c outer place = if is_real c place then (2 * outer, 2 * place) ∷ (rank (last_at c place), 2 * outer + 1) ∷ [] else []

-- the edges of a resource, if it is a container
abbrev pub edges_inside : Catalog → ℕ → Option Resource → List (ℕ × ℕ)
edges_inside c place None = []
edges_inside c place (Some r) =
    if is_plain_sort r.sort then [] else (2 * place, 2 * place + 1) ∷ flat_map (member_edges c place) (members_of place c)

-- from the container's start to its end, from its start to each member, and from each member to its end
abbrev pub container_edges : Catalog → ℕ → List (ℕ × ℕ)
container_edges c place = edges_inside c place (real_at c place)

-- those of the first n places
abbrev pub structure_edges : Catalog → ℕ → List (ℕ × ℕ)
structure_edges c zero = []
structure_edges c (suc n) = structure_edges c n ++ container_edges c n

-- ---- relations

-- from each node of the one side to each of the other
abbrev pub crossing : List ℕ → List ℕ → List (ℕ × ℕ)
crossing from to = flat_map (λ a. map (λ b. (a, b)) to) from

-- to a node of its own, and from it
abbrev pub through : ℕ → List ℕ → List ℕ → List (ℕ × ℕ)
through hub from to = map (λ a. (a, hub)) from ++ map (λ b. (hub, b)) to

-- both sides are large
abbrev pub is_wide : Link → Bool
is_wide l = nat_lt FEW (length l.from) && nat_lt FEW (length l.to)

-- the edges of one relation
abbrev pub link_edges : ℕ → Link → List (ℕ × ℕ)
link_edges hub l = if is_wide l then through hub l.from l.to else crossing l.from l.to

-- the first number that is free after it
abbrev pub hub_after : ℕ → Link → ℕ
hub_after hub l = if is_wide l then hub + 1 else hub

-- the edges of all, where the nodes of their own are numbered from here on
abbrev pub edges_of_links : ℕ → List Link → List (ℕ × ℕ)
edges_of_links hub [] = []
edges_of_links hub (l ∷ links) = link_edges hub l ++ edges_of_links (hub_after hub l) links

-- the first number that is free after these
abbrev pub hubs_after : ℕ → List Link → ℕ
hubs_after hub [] = hub
hubs_after hub (l ∷ links) = hubs_after (hub_after hub l) links
