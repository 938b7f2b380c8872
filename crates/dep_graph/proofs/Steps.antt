-- Paths between numbers are paths between nodes.
use Rattle.std.proofs.Common.{◌≡◌, ℕ, ◌+◌, ◌*◌, ◌<◌, ◌≤◌, List, ◌++◌, length, Some, inl, inr, refl, sym, ap, subst, subst₂, ◌∙◌, arith}
use Rattle.std.specs.List.{Contains}
use Rattle.std.proofs.lemmas.List.Elements.{Contains-append_left, Contains-append_right, Contains-append_cases}
use Rattle.orders.specs.Paths.{EndsBelow, Path}
use Rattle.orders.specs.Paths as paths
use Rattle.catalog_semantics.specs.declared.catalog.Resource.{Resource}
use Rattle.catalog_semantics.specs.declared.catalog.Relation.{Relation}
use Rattle.catalog_semantics.specs.declared.catalog.Sort.{Sort}
use Rattle.catalog_semantics.specs.declared.catalog.Sort.TheVariants as sort
use Rattle.catalog_semantics.specs.Catalogs.{Catalog}
use Rattle.graph_semantics.specs.Relations.{real_at, metaparameter_relations, all_relations, Relates, IsRelated}
use Rattle.graph_semantics.specs.Automatic.{ComesAfter}
use Rattle.graph_semantics.specs.Graphs.{Node, Start, End, rank, last_node, Leads, Edge, Before, plain_places}
use Rattle.dep_graph.specs.Numbers.{last_at}
use Rattle.dep_graph.specs.Numbered.{structure_edges, edges_of_links}
use Rattle.dep_graph.specs.Named.{named_edges}
use Rattle.dep_graph.specs.Files.{AreFiles, file_edges}
use Rattle.dep_graph.specs.Whole.{bound_of, count_of, all_edges, AreLinks}
use Rattle.dep_graph.specs.declared.links.Link.{Link}
use Rattle.dep_graph.specs.declared.files.ManagedFile.{ManagedFile}
use Rattle.graph_semantics.proofs.Elements.{either_way}
use Rattle.graph_semantics.proofs.RealPlaces.{within}
use Rattle.dep_graph.proofs.ContainerLaws.{last_is, IsEdge, structure_from, whole_in, enters_in, leaves_in}
use Rattle.dep_graph.proofs.LinkEdges.{IsHub, LinkEdge, Reached, link_edge_from, link_edge_in, hub_from, hub_below, one_hub, hub_of_link, hubs_grow}
use Rattle.dep_graph.proofs.Related.{link_edge, related_link, low_from, low_to, target_real}
use Rattle.dep_graph.proofs.AutomaticLaws.{named_from, named_in, file_from, file_in}
use Rattle.dep_graph.proofs.NamedLaws.{all_from}

-- ---- numbers of nodes

-- nodes of one number are one
pub one_node : (a b : Node) → rank a ≡ rank b → a ≡ b
one_node (Start p) (Start q) h = let same : p ≡ q = omega (arith, h) in ap (λ (k : ℕ). Start k) same
one_node (End p) (End q) h = let same : p ≡ q = omega (arith, h) in ap (λ (k : ℕ). End k) same
one_node (Start p) (End q) h = absurd (odd p q h) where
  odd : (p q : ℕ) → 2 * p ≡ 2 * q + 1 → ⊥
  odd p q h = omega (arith, h)
one_node (End p) (Start q) h = absurd (odd p q h) where
  odd : (p q : ℕ) → 2 * p + 1 ≡ 2 * q → ⊥
  odd p q h = omega (arith, h)

-- the last node of a resource within the catalog is one of the nodes
low_node : (c : Catalog) (place : ℕ) (s : Sort) → place < length c.resources → rank (last_node s place) < bound_of c
low_node c place sort.Plain h = omega (arith, h)
low_node c place sort.Defined h = omega (arith, h)
low_node c place sort.Class h = omega (arith, h)

-- so is the start of a real resource
low_start : (c : Catalog) (place : ℕ) (r : Resource) → real_at c place ≡ Some r → rank (Start place) < bound_of c
low_start c place r h = let less = within c place r h in omega arith

-- and its end
low_end : (c : Catalog) (place : ℕ) (r : Resource) → real_at c place ≡ Some r → rank (End place) < bound_of c
low_end c place r h = let less = within c place r h in omega arith

-- both ends of an edge are nodes of the catalog
pub record AreLow (c : Catalog) (a b : Node) : Type 0 where
  pub from : rank a < bound_of c
  pub to : rank b < bound_of c

-- both ends are nodes where equal ones are
low : (c : Catalog) (a b m n : Node) → a ≡ m → b ≡ n → rank m < bound_of c → rank n < bound_of c → AreLow c a b
low c a b m n p q h k = record { from = subst (λ x. rank x < bound_of c) (sym p) h; to = subst (λ x. rank x < bound_of c) (sym q) k }

-- both ends of a relation's edge are nodes
low_leads : (c : Catalog) (q : Relation) (first second : ℕ) (a b : Node) → Relates c q first second → Leads c first second a b → AreLow c a b
low_leads c q first second a b r h =
    let target = target_real c r.right second r.to_is in
    low c a b (last_node h.resource.sort first) (Start second) h.from h.to (low_node c first h.resource.sort (within c first h.resource h.real)) (low_start c second target.0 target.1)

-- so are both of an automatic edge
plain_low : (c : Catalog) (place target : ℕ) → ComesAfter c place target → (rank (Start place) < bound_of c) × (rank (Start target) < bound_of c)
plain_low c place target (ComesAfter.ancestor p q mine other above far) = (low_start c place mine.resource mine.plain.real, low_start c target other.resource other.plain.real)
plain_low c place target (ComesAfter.named r kind name plain among manages) = (low_start c place r plain.real, low_start c target manages.resource manages.plain.real)

-- so are both ends of each edge
pub edge_low : (c : Catalog) (a b : Node) → Edge c a b → AreLow c a b
edge_low c a b (Edge.whole place o p q) = low c a b (Start place) (End place) p q (low_start c place o.resource o.real) (low_end c place o.resource o.real)
edge_low c a b (Edge.enters outer place r o m real p q) = low c a b (Start outer) (Start place) p q (low_start c outer o.resource o.real) (low_start c place r real)
edge_low c a b (Edge.leaves outer place r o m real p q) =
    low c a b (last_node r.sort place) (End outer) p q (low_node c place r.sort (within c place r real)) (low_end c outer o.resource o.real)
edge_low c a b (Edge.metaparameter q first second among r leads) = low_leads c q first second a b r leads
edge_low c a b (Edge.arrow q first second among r leads) = low_leads c q first second a b r leads
edge_low c a b (Edge.automatic first second h p q) =
    let both = plain_low c second first h.after in
    low c a b (Start first) (Start second) p q both.1 both.0

-- ---- steps between numbers

-- an edge of the graph, or a step into a relation's own node, or out of it
pub data Step (c : Catalog) (links : List Link) (x y : ℕ) : Type 0 where
  node : IsEdge c (x, y) → Step c links x y
  into : (l : Link) → IsHub (bound_of c) links y l → Contains l.from x → Step c links x y
  out : (l : Link) → IsHub (bound_of c) links x l → Contains l.to y → Step c links x y

-- an edge of the relations is such a step
step_of : (c : Catalog) (links : List Link) → AreLinks c links → (x y : ℕ) → LinkEdge (bound_of c) links x y → Step c links x y
step_of c links are x y (LinkEdge.direct l among from to) = Step.node (link_edge c links are l x y among from to)
step_of c links are x y (LinkEdge.into l hub from) = Step.into l hub from
step_of c links are x y (LinkEdge.out l hub to) = Step.out l hub to

module _ (c : Catalog) (links : List Link) (files : List ManagedFile) (are : AreLinks c links) (files_are : AreFiles c (plain_places c) files) where
  -- all edges, by numbers
  abbrev es : List (ℕ × ℕ)
  es = all_edges c links files

  -- the edges of containers
  abbrev structure : List (ℕ × ℕ)
  structure = structure_edges c (length c.resources)

  -- the edges of relations
  abbrev joined : List (ℕ × ℕ)
  joined = edges_of_links (bound_of c) links

  -- the automatic edges to what is named
  abbrev named : List (ℕ × ℕ)
  named = named_edges c links (plain_places c) (plain_places c)

  -- each edge by numbers is such a step
  pub step : (x y : ℕ) → Contains es (x, y) → Step c links x y
  step x y h =
      either_way (λ m. Step.node (structure_from c (length c.resources) (x, y) m))
      (λ rest. either_way (λ m. step_of c links are x y (link_edge_from (bound_of c) links x y m))
      (λ more. either_way (λ m. Step.node (named_from c links are (x, y) m)) (λ m. Step.node (file_from c links files are files_are (x, y) m))
      (Contains-append_cases named (file_edges links files) (x, y) more))
      (Contains-append_cases joined (named ++ file_edges links files) (x, y) rest))
      (Contains-append_cases structure (joined ++ (named ++ file_edges links files)) (x, y) h)

  -- an edge of containers is one of all
  in_structure : (e : ℕ × ℕ) → Contains structure e → Contains es e
  in_structure e m = Contains-append_left structure (joined ++ (named ++ file_edges links files)) e m

  -- so is one of relations
  in_joined : (e : ℕ × ℕ) → Contains joined e → Contains es e
  in_joined e m = Contains-append_right structure (joined ++ (named ++ file_edges links files)) e (Contains-append_left joined (named ++ file_edges links files) e m)

  -- and one to what is named
  in_named : (e : ℕ × ℕ) → Contains named e → Contains es e
  in_named e m =
      Contains-append_right structure (joined ++ (named ++ file_edges links files)) e
      (Contains-append_right joined (named ++ file_edges links files) e (Contains-append_left named (file_edges links files) e m))

  -- and one between files
  in_files : (e : ℕ × ℕ) → Contains (file_edges links files) e → Contains es e
  in_files e m =
      Contains-append_right structure (joined ++ (named ++ file_edges links files)) e
      (Contains-append_right joined (named ++ file_edges links files) e (Contains-append_right named (file_edges links files) e m))

  -- ---- each edge is a path

  -- what relations reach, a path leads to
  reached_path : (x y : ℕ) → Reached joined x y → Path es x y
  reached_path x y (inl m) = paths.Path.edge (in_joined (x, y) m)
  reached_path x y (inr m) = paths.Path.and_on (in_joined (x, m.0) m.1) (paths.Path.edge (in_joined (m.0, y) m.2))

  -- what a relation puts first leads to what it puts second
  led : (q : Relation) (first second : ℕ) (a b : Node) → Contains (all_relations c) q → Relates c q first second → Leads c first second a b → Path es (rank a) (rank b)
  led q first second a b among r leads =
      let l = related_link c links are q first second among r in
      let path = reached_path (rank (last_at c first)) (2 * second) (link_edge_in (bound_of c) links l.0 (rank (last_at c first)) (2 * second) l.1 l.2 l.3) in
      subst₂ (Path es) (ap rank (last_is c first leads.resource leads.real) ∙ sym (ap rank leads.from)) (sym (ap rank leads.to)) path

  -- an edge between the numbers of two nodes is a path
  one : (a b m n : Node) → a ≡ m → b ≡ n → Contains es (rank m, rank n) → Path es (rank a) (rank b)
  one a b m n p q h = subst₂ (Path es) (sym (ap rank p)) (sym (ap rank q)) (paths.Path.edge h)

  -- an automatic edge is one by numbers, if no relation stands to the target
  automatic_path : (place target : ℕ) → (IsRelated c place target → ⊥) → ComesAfter c place target → Contains es (rank (Start target), rank (Start place))
  automatic_path place target free (ComesAfter.ancestor p q mine other above far) = in_files (2 * target, 2 * place) (file_in c links files are files_are place target p q mine other above far free)
  automatic_path place target free (ComesAfter.named r kind name plain among manages) = in_named (2 * target, 2 * place) (named_in c links are place target r kind name plain among manages free)

  -- each edge of the graph is a path by numbers
  pub edge_path : (a b : Node) → Edge c a b → Path es (rank a) (rank b)
  edge_path a b (Edge.whole place o p q) = one a b (Start place) (End place) p q (in_structure (2 * place, 2 * place + 1) (whole_in c place o))
  edge_path a b (Edge.enters outer place r o m real p q) = one a b (Start outer) (Start place) p q (in_structure (2 * outer, 2 * place) (enters_in c outer place r o m real))
  edge_path a b (Edge.leaves outer place r o m real p q) =
      one a b (last_node r.sort place) (End outer) p q (in_structure (rank (last_node r.sort place), 2 * outer + 1) (leaves_in c outer place r o m real))
  edge_path a b (Edge.metaparameter q first second among r leads) = led q first second a b (Contains-append_left (metaparameter_relations c) c.relations q among) r leads
  edge_path a b (Edge.arrow q first second among r leads) = led q first second a b (Contains-append_right (metaparameter_relations c) c.relations q among) r leads
  edge_path a b (Edge.automatic first second h p q) = one a b (Start first) (Start second) p q (automatic_path second first h.free h.after)

  -- a path behind a path is a path
  on : (x y z : ℕ) → Path es x y → Path es y z → Path es x z
  on x y z (paths.Path.edge h) k = paths.Path.and_on h k
  on x y z (paths.Path.and_on h more) k = paths.Path.and_on h (on _ y z more k)

  -- what comes before a node leads to it by numbers
  pub before_path : (a b : Node) → Before c a b → Path es (rank a) (rank b)
  before_path a b (Before.edge h) = edge_path a b h
  before_path a b (Before.and_on n h more) = on (rank a) (rank n) (rank b) (edge_path a n h) (before_path n b more)

  -- ---- and each path between nodes is one of edges

  -- a number that only joins is no node's
  high : (h : ℕ) (l : Link) → IsHub (bound_of c) links h l → h < bound_of c → ⊥
  high h l hub less = let up = hub_from (bound_of c) links h l hub in omega arith

  -- both ends of an edge of the graph are nodes
  low_edge : (x y : ℕ) → IsEdge c (x, y) → (x < bound_of c) × (y < bound_of c)
  low_edge x y e =
      let both = edge_low c e.from e.to e.edge in
      (subst (λ n. n < bound_of c) (sym e.from_is) both.from, subst (λ n. n < bound_of c) (sym e.to_is) both.to)

  -- an edge by numbers is one between the nodes of these
  edge_at : (x y : ℕ) (a b : Node) → IsEdge c (x, y) → x ≡ rank a → y ≡ rank b → Edge c a b
  edge_at x y a b e p q = subst₂ (Edge c) (one_node e.from a (sym e.from_is ∙ p)) (one_node e.to b (sym e.to_is ∙ q)) e.edge

  -- what comes before a node, from a node or through a relation's own node
  pub record Told (x y : ℕ) : Type 0 where
    pub node : (a b : Node) → x ≡ rank a → y ≡ rank b → x < bound_of c → y < bound_of c → Before c a b
    pub hub : (l : Link) (w : ℕ) (a b : Node) → IsHub (bound_of c) links x l → Contains l.from w → w ≡ rank a → y ≡ rank b → y < bound_of c → Before c a b

  -- what goes into a relation's own node and what goes out of it are joined by an edge
  crossed : (l m : Link) (h w y : ℕ) → IsHub (bound_of c) links h l → IsHub (bound_of c) links h m → Contains l.from w → Contains m.to y → IsEdge c (w, y)
  crossed l m h w y hub other from to =
      link_edge c links are l w y (hub_of_link (bound_of c) links h l hub) from (subst (λ (k : Link). Contains k.to y) (one_hub (bound_of c) links h m l other hub) to)

  -- one step tells what comes before what
  told_edge : (x y : ℕ) → Step c links x y → Told x y
  told_edge x y (Step.node e) = record {
    node = λ a b p q less small. Before.edge (edge_at x y a b e p q);
    hub = λ l w a b hub from p q small. absurd (high x l hub (low_edge x y e).0);
  }
  told_edge x y (Step.into m hub from) = record {
    node = λ a b p q less small. absurd (high y m hub small);
    hub = λ l w a b other into p q small. absurd (high y m hub small);
  }
  told_edge x y (Step.out m hub to) = record {
    node = λ a b p q less small. absurd (high x m hub less);
    hub = λ l w a b other from p q small. Before.edge (edge_at w y a b (crossed l m x w y other hub from to) p q);
  }

  -- so does an edge before what tells it
  edge_then : (x y : ℕ) (a : Node) (b : Node) (z : ℕ) → IsEdge c (x, y) → x ≡ rank a → z ≡ rank b → z < bound_of c → Told y z → Before c a b
  edge_then x y a b z e p q small t =
      Before.and_on e.to (edge_at x y a e.to e p e.to_is) (t.node e.to b e.to_is q (low_edge x y e).1 small)

  -- so does a step before what tells it
  told_more : (x y z : ℕ) → Step c links x y → Told y z → Told x z
  told_more x y z (Step.node e) t = record {
    node = λ a b p q less small. edge_then x y a b z e p q small t;
    hub = λ l w a b hub from p q small. absurd (high x l hub (low_edge x y e).0);
  }
  told_more x y z (Step.into m hub from) t = record {
    node = λ a b p q less small. t.hub m x a b hub from p q small;
    hub = λ l w a b other into p q small. absurd (high x l other (low_from c links are m x (hub_of_link (bound_of c) links y m hub) from));
  }
  told_more x y z (Step.out m hub to) t = record {
    node = λ a b p q less small. absurd (high x m hub less);
    hub = λ l w a b other from p q small. edge_then w y a b z (crossed l m x w y other hub from to) p q small t;
  }

  -- so does a path
  pub told : (x y : ℕ) → Path es x y → Told x y
  told x y (paths.Path.edge h) = told_edge x y (step x y h)
  told x y (paths.Path.and_on h more) = told_more x _ y (step x _ h) (told _ y more)

  -- a path between nodes means that the one comes before the other
  pub path_before : (a b : Node) → rank a < bound_of c → rank b < bound_of c → Path es (rank a) (rank b) → Before c a b
  path_before a b p q h = (told (rank a) (rank b) h).node a b refl refl p q

  -- ---- both ends of each are numbers that are given

  -- no node's number is above the count of all
  count_grows : bound_of c ≤ count_of c links
  count_grows = hubs_grow (bound_of c) links

  -- both ends of a step are below the count
  below : (x y : ℕ) → Step c links x y → (x < count_of c links) × (y < count_of c links)
  below x y (Step.node e) = let both = low_edge x y e in let grows = count_grows in (omega arith, omega arith)
  below x y (Step.into l hub from) =
      let one_end = low_from c links are l x (hub_of_link (bound_of c) links y l hub) from in
      let other = hub_below (bound_of c) links y l hub in
      let grows = count_grows in
      (omega arith, other)
  below x y (Step.out l hub to) =
      let one_end = hub_below (bound_of c) links x l hub in
      let other = low_to c links are l y (hub_of_link (bound_of c) links x l hub) to in
      let grows = count_grows in
      (one_end, omega arith)

  -- so are those of all edges
  pub ends_below : EndsBelow (count_of c links) es
  ends_below = all_from (λ (e : ℕ × ℕ). (e.0 < count_of c links) × (e.1 < count_of c links)) es (λ e m. below e.0 e.1 (step e.0 e.1 m))
