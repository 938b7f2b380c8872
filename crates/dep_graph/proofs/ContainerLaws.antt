-- The edges of containers, between numbers and between nodes.
use Rattle.std.proofs.Common.{◌≡◌, ℕ, zero, suc, ◌+◌, ◌*◌, ◌<◌, List, [], ◌∷◌, ◌++◌, length, Bool, true, false, cond, ◌&&◌, Option, Some, None, ◌⊎◌, inl, inr, refl, sym, ap, subst, ◌∙◌, arith, eqb-true, eq-eqb, ltb-true, ltb-false}
use Rattle.std.specs.Prelude.{slice_get, is_some, not, ◌==◌, nat_lt, option_and_then}
use Rattle.std.specs.List.{Contains, flat_map, list_any}
use Rattle.std.proofs.lemmas.List.Elements.{Contains-append_left, Contains-append_right, Contains-append_cases, Contains-push, Contains-push_cases}
use Rattle.catalog_semantics.specs.declared.catalog.Resource.{Resource}
use Rattle.catalog_semantics.specs.declared.state.Holding.{Holding}
use Rattle.catalog_semantics.specs.Catalogs.{Catalog, is_plain_sort}
use Rattle.catalog.specs.Members.{members_of, inside, is_inside, is_held_by, classes_in, held_after, with_held, with_class}
use Rattle.graph_semantics.specs.Relations.{real_at, if_real}
use Rattle.graph_semantics.specs.Graphs.{Node, Start, End, rank, last_node, IsContainerAt, IsMember, Edge}
use Rattle.dep_graph.specs.Numbers.{last_of, last_at}
use Rattle.dep_graph.specs.Numbered.{member_edges, edges_inside, container_edges, structure_edges}
use Rattle.graph_semantics.proofs.RealPlaces.{stands, isnt_virtual, within, first_plain, later_plain, real_of}
use Rattle.graph_semantics.proofs.Elements.{either_way, none_in, head_in, tail_in, in_cases, in_one, in_flat_map, flat_map_in, any_in}
use Rattle.std.proofs.lemmas.Bool.{and_parts, not-true}
use Rattle.std.proofs.lemmas.Option.{same_Some}

-- where a real resource is done is its last node
pub last_is : (c : Catalog) (place : ℕ) (r : Resource) → real_at c place ≡ Some r → last_at c place ≡ last_node r.sort place
last_is c place r h = ap (λ o. last_of o place) (stands c place r h)

-- ---- what a container declared

-- a resource that is in the container stands at this place, counted from n
record StandsInside (outer n : ℕ) (resources : List Resource) (k : ℕ) : Type 0 where
  pub index : ℕ
  pub resource : Resource
  pub at : slice_get resources index ≡ Some resource
  pub is : k ≡ n + index
  pub inside : is_inside outer resource ≡ true

-- what stands among the others stands in all
one_on : (outer n k : ℕ) (r : Resource) (resources : List Resource) → StandsInside outer (n + 1) resources k → StandsInside outer n (r ∷ resources) k
one_on outer n k r resources h = record { index = suc h.index; resource = h.resource; at = h.at; is = omega (arith, h.is); inside = h.inside }

-- a place that is kept is that of a resource inside, here or further on
inside_step : (outer n k : ℕ) (r : Resource) (resources : List Resource) (t : Bool) → is_inside outer r ≡ t → (Contains (inside outer (n + 1) resources) k → StandsInside outer (n + 1) resources k)
    → Contains (cond t (n ∷ inside outer (n + 1) resources) (inside outer (n + 1) resources)) k → StandsInside outer n (r ∷ resources) k
inside_step outer n k r resources true is f h =
    either_way (λ e. record { index = 0; resource = r; at = refl; is = omega (arith, e); inside = is }) (λ m. one_on outer n k r resources (f m)) (in_cases n k (inside outer (n + 1) resources) h)
inside_step outer n k r resources false is f h = one_on outer n k r resources (f h)

-- each place that is kept is that of a resource inside
in_inside : (outer n k : ℕ) (resources : List Resource) → Contains (inside outer n resources) k → StandsInside outer n resources k
in_inside outer n k [] h = absurd (none_in k h)
in_inside outer n k (r ∷ resources) h = inside_step outer n k r resources (is_inside outer r) refl (in_inside outer (n + 1) k resources) h

-- the place of each resource inside is kept
inside_in : (outer n i : ℕ) (resources : List Resource) (r : Resource) → slice_get resources i ≡ Some r → is_inside outer r ≡ true → Contains (inside outer n resources) (n + i)
inside_in outer n i [] r h is = absurd (none_some r h) where
  none_some : (r : Resource) → ◌≡◌ {A = Option Resource} None (Some r) → ⊥
  none_some r h = cc
inside_in outer n zero (q ∷ resources) r h is =
    let first : n ≡ n + 0 = omega arith in
    subst (Contains (inside outer n (q ∷ resources))) first
    (first_plain n (is_inside outer q) (inside outer (n + 1) resources) (ap (is_inside outer) (same_Some q r h) ∙ is))
inside_in outer n (suc i) (q ∷ resources) r h is =
    let next : (n + 1) + i ≡ n + suc i = omega arith in
    later_plain n (n + suc i) (is_inside outer q) (inside outer (n + 1) resources)
    (subst (Contains (inside outer (n + 1) resources)) next (inside_in outer (n + 1) i resources r h is))

-- a resource that is told to be held by a container is
holder_is : (outer : ℕ) (o : Option ℕ) → is_held_by outer o ≡ true → o ≡ Some outer
holder_is outer None h = cc
holder_is outer (Some k) h = ap (λ (n : ℕ). Some n) (eqb-true k outer h)

-- ---- classes that are contained

-- a class that stands in a row stays there with one more
class_stays : (k : ℕ) (classes : List ℕ) (t : Bool) (class : ℕ) → Contains classes k → Contains (cond t classes (classes ++ class ∷ [])) k
class_stays k classes true class h = h
class_stays k classes false class h = Contains-append_left classes (class ∷ []) k h

-- the one more stands there, too
class_there : (classes : List ℕ) (t : Bool) (class : ℕ) → list_any (λ k. k == class) classes ≡ t → Contains (cond t classes (classes ++ class ∷ [])) class
class_there classes true class is =
    let found = any_in (λ k. k == class) classes is in
    subst (Contains classes) (eqb-true found.0 class found.2) found.1
class_there classes false class is = Contains-push classes class

-- what stands there stood there before, or is the one more
class_from : (k : ℕ) (classes : List ℕ) (t : Bool) (class : ℕ) → Contains (cond t classes (classes ++ class ∷ [])) k → Contains classes k ⊎ (class ≡ k)
class_from k classes true class h = inl h
class_from k classes false class h = Contains-push_cases classes class k h

-- so it is with a holding: it is the class of one in this container
held_from : (outer k : ℕ) (classes : List ℕ) (h : Holding) (t : Bool) → h.outer == outer ≡ t → Contains (cond t (with_class h.class classes) classes) k
    → Contains classes k ⊎ ((h.outer ≡ outer) × (h.class ≡ k))
held_from outer k classes h true is m =
    either_way (λ was. inl was) (λ e. inr (eqb-true h.outer outer is, e)) (class_from k classes (list_any (λ j. j == h.class) classes) h.class m)
held_from outer k classes h false is m = inl m

-- a holding puts this class into the container
record IsHeld (outer : ℕ) (holdings : List Holding) (k : ℕ) : Type 0 where
  pub holding : Holding
  pub among : Contains holdings holding
  pub outer_is : holding.outer ≡ outer
  pub class_is : holding.class ≡ k

-- what is held behind some classes is one of them, or a holding puts it in
in_held : (outer k : ℕ) (classes : List ℕ) (holdings : List Holding) → Contains (held_after outer classes holdings) k → Contains classes k ⊎ IsHeld outer holdings k
in_held outer k classes [] m = inl m
in_held outer k classes (h ∷ holdings) m =
    either_way
    (λ front. either_way (λ was. inl was) (λ e. inr (record { holding = h; among = head_in h holdings; outer_is = e.0; class_is = e.1 })) (held_from outer k classes h (h.outer == outer) refl front))
    (λ later. inr (record { holding = later.holding; among = tail_in h later.holding holdings later.among; outer_is = later.outer_is; class_is = later.class_is }))
    (in_held outer k (with_held outer classes h) holdings m)

-- what stood there stays with one more holding
held_more : (outer k : ℕ) (classes : List ℕ) (h : Holding) (t : Bool) → Contains classes k → Contains (cond t (with_class h.class classes) classes) k
held_more outer k classes h true m = class_stays k classes (list_any (λ j. j == h.class) classes) h.class m
held_more outer k classes h false m = m

-- and with all
held_stays : (outer k : ℕ) (classes : List ℕ) (holdings : List Holding) → Contains classes k → Contains (held_after outer classes holdings) k
held_stays outer k classes [] m = m
held_stays outer k classes (h ∷ holdings) m = held_stays outer k (with_held outer classes h) holdings (held_more outer k classes h (h.outer == outer) m)

-- the class of a holding in this container stands there
held_now : (outer : ℕ) (classes : List ℕ) (h : Holding) (t : Bool) → h.outer == outer ≡ t → h.outer ≡ outer → Contains (cond t (with_class h.class classes) classes) h.class
held_now outer classes h true is same = class_there classes (list_any (λ j. j == h.class) classes) h.class refl
held_now outer classes h false is same = absurd (differ (sym is ∙ eq-eqb h.outer outer same)) where
  differ : false ≡ true → ⊥
  differ h = cc

-- each class that a holding puts in stands there
held_in : (outer : ℕ) (classes : List ℕ) (holdings : List Holding) (k : ℕ) → IsHeld outer holdings k → Contains (held_after outer classes holdings) k
held_in outer classes [] k m = absurd (none_in m.holding m.among)
held_in outer classes (h ∷ holdings) k m =
    either_way
    (λ e. held_stays outer k (with_held outer classes h) holdings
    (subst (Contains (with_held outer classes h)) (ap (λ (x : Holding). x.class) e ∙ m.class_is) (held_now outer classes h (h.outer == outer) refl (ap (λ (x : Holding). x.outer) e ∙ m.outer_is))))
    (λ rest. held_in outer (with_held outer classes h) holdings k (record { holding = m.holding; among = rest; outer_is = m.outer_is; class_is = m.class_is }))
    (in_cases h m.holding holdings m.among)

-- ---- members

-- what is listed of a container is a member
pub member_from : (c : Catalog) (outer k : ℕ) → Contains (members_of outer c) k → IsMember c outer k
member_from c outer k m = either_way declared contained (Contains-append_cases (inside outer 0 c.resources) (classes_in outer c.holdings) k m) where
  declared : Contains (inside outer 0 c.resources) k → IsMember c outer k
  declared m =
      let at = in_inside outer 0 k c.resources m in
      let both = and_parts (is_held_by outer at.resource.holder) (not at.resource.is_virtual) at.inside in
      let same : at.index ≡ k = omega (arith, at.is) in
      IsMember.declared at.resource
      (ap (option_and_then if_real) (subst (λ i. slice_get c.resources i ≡ Some at.resource) same at.at) ∙ real_of at.resource at.resource.is_virtual refl (not-true at.resource.is_virtual both.1))
      (holder_is outer at.resource.holder both.0)

  contained : Contains (classes_in outer c.holdings) k → IsMember c outer k
  contained m = either_way (λ none. absurd (none_in k none)) (λ h. IsMember.contained h.holding h.among h.outer_is h.class_is) (in_held outer k [] c.holdings m)

-- a real resource whose holder is the container is inside
held_by : (outer : ℕ) (r : Resource) → r.holder ≡ Some outer → r.is_virtual ≡ false → is_inside outer r ≡ true
held_by outer r h v = ap (λ o. is_held_by outer o && not r.is_virtual) h ∙ ap (λ t. t && not r.is_virtual) (eq-eqb outer outer refl) ∙ ap not v

-- and each member is listed
pub member_in : (c : Catalog) (outer k : ℕ) → IsMember c outer k → Contains (members_of outer c) k
member_in c outer k (IsMember.declared r real holder) =
    Contains-append_left (inside outer 0 c.resources) (classes_in outer c.holdings) k
    (from_zero (inside_in outer 0 k c.resources r (stands c k r real) (held_by outer r holder (isnt_virtual c k r real)))) where
      from_zero : Contains (inside outer 0 c.resources) (0 + k) → Contains (inside outer 0 c.resources) k
      from_zero m = let zero_more : 0 + k ≡ k = omega arith in subst (Contains (inside outer 0 c.resources)) zero_more m
member_in c outer k (IsMember.contained h among outer_is class_is) =
    Contains-append_right (inside outer 0 c.resources) (classes_in outer c.holdings) k
    (held_in outer [] c.holdings k (record { holding = h; among = among; outer_is = outer_is; class_is = class_is }))

-- ---- edges of containers, by numbers

-- numbers of nodes between which an edge leads
pub record IsEdge (c : Catalog) (e : ℕ × ℕ) : Type 0 where
  pub from : Node
  pub to : Node
  pub edge : Edge c from to
  pub from_is : e.0 ≡ rank from
  pub to_is : e.1 ≡ rank to

-- an edge between nodes is one of their numbers
edge_of : (c : Catalog) (a b : Node) (x y : ℕ) → Edge c a b → x ≡ rank a → y ≡ rank b → IsEdge c (x, y)
edge_of c a b x y h i j = record { from = a; to = b; edge = h; from_is = i; to_is = j }

-- the edges that are made of a member are edges of the graph
member_edge_from : (c : Catalog) (outer k : ℕ) (t : Option Resource) (e : ℕ × ℕ) → real_at c k ≡ t → IsContainerAt c outer → IsMember c outer k
    → Contains (cond (is_some t) ((2 * outer, 2 * k) ∷ (rank (last_at c k), 2 * outer + 1) ∷ []) []) e → IsEdge c e
member_edge_from c outer k None e is o m h = absurd (none_in e h)
member_edge_from c outer k (Some r) e is o m h =
    either_way
    (λ same. subst (IsEdge c) same (edge_of c (Start outer) (Start k) (2 * outer) (2 * k) (Edge.enters outer k r o m is refl refl) refl refl))
    (λ more. subst (IsEdge c) (in_one (rank (last_at c k), 2 * outer + 1) e more)
    (edge_of c (last_node r.sort k) (End outer) (rank (last_at c k)) (2 * outer + 1) (Edge.leaves outer k r o m is refl refl) (ap rank (last_is c k r is)) refl))
    (in_cases (2 * outer, 2 * k) e ((rank (last_at c k), 2 * outer + 1) ∷ []) h)

-- so are those of a container
inside_edge_from : (c : Catalog) (k : ℕ) (r : Resource) (t : Bool) (e : ℕ × ℕ) → real_at c k ≡ Some r → is_plain_sort r.sort ≡ t
    → Contains (cond t [] ((2 * k, 2 * k + 1) ∷ flat_map (member_edges c k) (members_of k c))) e → IsEdge c e
inside_edge_from c k r true e real is h = absurd (none_in e h)
inside_edge_from c k r false e real is h =
    let o : IsContainerAt c k = record { resource = r; real = real; sort = is } in
    either_way
    (λ same. subst (IsEdge c) same (edge_of c (Start k) (End k) (2 * k) (2 * k + 1) (Edge.whole k o refl refl) refl refl))
    (λ more.
    let at = in_flat_map (member_edges c k) (members_of k c) e more in
    member_edge_from c k at.0 (real_at c at.0) e refl o (member_from c k at.0 at.1) at.2)
    (in_cases (2 * k, 2 * k + 1) e (flat_map (member_edges c k) (members_of k c)) h)

-- so are those of a place, whatever stands there
container_edge_from : (c : Catalog) (k : ℕ) (t : Option Resource) (e : ℕ × ℕ) → real_at c k ≡ t → Contains (edges_inside c k t) e → IsEdge c e
container_edge_from c k None e is h = absurd (none_in e h)
container_edge_from c k (Some r) e is h = inside_edge_from c k r (is_plain_sort r.sort) e is refl h

-- so are those of all places
pub structure_from : (c : Catalog) (n : ℕ) (e : ℕ × ℕ) → Contains (structure_edges c n) e → IsEdge c e
structure_from c zero e h = absurd (none_in e h)
structure_from c (suc n) e h =
    either_way (structure_from c n e) (container_edge_from c n (real_at c n) e refl) (Contains-append_cases (structure_edges c n) (container_edges c n) e h)

-- ---- and each of these edges is there

-- an edge of a place below the next is made there or before
last_or_before : (c : Catalog) (n k : ℕ) (e : ℕ × ℕ) (t : Bool) → nat_lt k n ≡ t → k < suc n → (k < n → Contains (structure_edges c n) e) → Contains (container_edges c k) e
    → Contains (structure_edges c n ++ container_edges c n) e
last_or_before c n k e true is less f h = Contains-append_left (structure_edges c n) (container_edges c n) e (f (ltb-true k n is))
last_or_before c n k e false is less f h =
    let up = ltb-false k n is in
    let same : k ≡ n = omega arith in
    Contains-append_right (structure_edges c n) (container_edges c n) e (subst (λ m. Contains (container_edges c m) e) same h)

-- the edges of each place are among all
pub structure_in : (c : Catalog) (n k : ℕ) (e : ℕ × ℕ) → k < n → Contains (container_edges c k) e → Contains (structure_edges c n) e
structure_in c zero k e less h = absurd (never less) where
  never : k < 0 → ⊥
  never less = omega (arith, less)
structure_in c (suc n) k e less h = last_or_before c n k e (nat_lt k n) refl less (λ small. structure_in c n k e small h) h

-- the edges of a container are those of its place
container_in : (c : Catalog) (k : ℕ) (e : ℕ × ℕ) (o : IsContainerAt c k) → Contains ((2 * k, 2 * k + 1) ∷ flat_map (member_edges c k) (members_of k c)) e → Contains (container_edges c k) e
container_in c k e o h =
    subst (λ t. Contains (edges_inside c k t) e) (sym o.real) (subst (λ t. Contains (cond t [] ((2 * k, 2 * k + 1) ∷ flat_map (member_edges c k) (members_of k c))) e) (sym o.sort) h)

-- from each container's start to its end an edge is made
pub whole_in : (c : Catalog) (k : ℕ) → IsContainerAt c k → Contains (structure_edges c (length c.resources)) (2 * k, 2 * k + 1)
whole_in c k o =
    structure_in c (length c.resources) k (2 * k, 2 * k + 1) (within c k o.resource o.real)
    (container_in c k (2 * k, 2 * k + 1) o (head_in (2 * k, 2 * k + 1) (flat_map (member_edges c k) (members_of k c))))

-- the edges of a real member are made
member_pairs : (c : Catalog) (outer k : ℕ) (r : Resource) (e : ℕ × ℕ) → real_at c k ≡ Some r
    → Contains ((2 * outer, 2 * k) ∷ (rank (last_at c k), 2 * outer + 1) ∷ []) e → Contains (member_edges c outer k) e
member_pairs c outer k r e real h = subst (λ t. Contains (cond (is_some t) ((2 * outer, 2 * k) ∷ (rank (last_at c k), 2 * outer + 1) ∷ []) []) e) (sym real) h

-- so they are among all
member_edge_in : (c : Catalog) (outer k : ℕ) (r : Resource) (e : ℕ × ℕ) → IsContainerAt c outer → IsMember c outer k → real_at c k ≡ Some r
    → Contains ((2 * outer, 2 * k) ∷ (rank (last_at c k), 2 * outer + 1) ∷ []) e → Contains (structure_edges c (length c.resources)) e
member_edge_in c outer k r e o m real h =
    structure_in c (length c.resources) outer e (within c outer o.resource o.real)
    (container_in c outer e o (tail_in (2 * outer, 2 * outer + 1) e (flat_map (member_edges c outer) (members_of outer c))
    (flat_map_in (member_edges c outer) (members_of outer c) k e (member_in c outer k m) (member_pairs c outer k r e real h))))

-- from each container's start to each member an edge is made
pub enters_in : (c : Catalog) (outer k : ℕ) (r : Resource) → IsContainerAt c outer → IsMember c outer k → real_at c k ≡ Some r
    → Contains (structure_edges c (length c.resources)) (2 * outer, 2 * k)
enters_in c outer k r o m real = member_edge_in c outer k r (2 * outer, 2 * k) o m real (head_in (2 * outer, 2 * k) ((rank (last_at c k), 2 * outer + 1) ∷ []))

-- and from each member to its end
pub leaves_in : (c : Catalog) (outer k : ℕ) (r : Resource) → IsContainerAt c outer → IsMember c outer k → real_at c k ≡ Some r
    → Contains (structure_edges c (length c.resources)) (rank (last_node r.sort k), 2 * outer + 1)
leaves_in c outer k r o m real =
    subst (λ (n : ℕ). Contains (structure_edges c (length c.resources)) (n, 2 * outer + 1)) (ap rank (last_is c k r real))
    (member_edge_in c outer k r (rank (last_at c k), 2 * outer + 1) o m real (tail_in (2 * outer, 2 * k) (rank (last_at c k), 2 * outer + 1) ((rank (last_at c k), 2 * outer + 1) ∷ []) (head_in (rank (last_at c k), 2 * outer + 1) [])))
