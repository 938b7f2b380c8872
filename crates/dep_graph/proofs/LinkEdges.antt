-- The edges of relations between nodes: from side to side, or through a node of their own.
use Rattle.std.proofs.Common.{◌≡◌, ℕ, ◌+◌, ◌<◌, ◌≤◌, List, [], ◌∷◌, ◌++◌, Bool, true, false, cond, ◌⊎◌, inl, inr, map, refl, sym, ap, subst, ◌∙◌, arith}
use Rattle.std.specs.List.{Contains}
use Rattle.std.proofs.lemmas.List.Elements.{Contains-append_left, Contains-append_right, Contains-append_cases}
use Rattle.dep_graph.specs.Numbered.{crossing, through, is_wide, link_edges, hub_after, edges_of_links, hubs_after}
use Rattle.dep_graph.specs.declared.links.Link.{Link}
use Rattle.graph_semantics.proofs.Elements.{either_way, none_in, head_in, tail_in, in_cases, in_map, map_in, in_flat_map, flat_map_in}

-- this number is that of the relation's own node, where they are numbered from the first on
abbrev pub IsHub : ℕ → List Link → ℕ → Link → Type 0
IsHub first [] h l = ⊥
IsHub first (k ∷ links) h l = ((is_wide k ≡ true) × (h ≡ first) × (l ≡ k)) ⊎ IsHub (hub_after first k) links h l

-- the next free number is no less
after_grows : (first : ℕ) (k : Link) (t : Bool) → first ≤ cond t (first + 1) first
after_grows first k true = omega arith
after_grows first k false = omega arith

-- a relation's own node isn't below the first free number
pub hub_from : (first : ℕ) (links : List Link) (h : ℕ) (l : Link) → IsHub first links h l → first ≤ h
hub_from first [] h l k = absurd k
hub_from first (k ∷ links) h l (inl e) = let same = e.1 in omega arith
hub_from first (k ∷ links) h l (inr e) =
    let rest = hub_from (hub_after first k) links h l e in
    let grows = after_grows first k (is_wide k) in
    omega arith

-- the first number that is free after all is no less
pub hubs_grow : (first : ℕ) (links : List Link) → first ≤ hubs_after first links
hubs_grow first [] = omega arith
hubs_grow first (k ∷ links) =
    let rest = hubs_grow (hub_after first k) links in
    let grows = after_grows first k (is_wide k) in
    omega arith

-- a relation with both sides large takes one number
after_wide : (first : ℕ) (k : Link) → is_wide k ≡ true → hub_after first k ≡ first + 1
after_wide first k h = ap (λ t. cond t (first + 1) first) h

-- its own node is below the first number that is free after all
pub hub_below : (first : ℕ) (links : List Link) (h : ℕ) (l : Link) → IsHub first links h l → h < hubs_after first links
hub_below first [] h l k = absurd k
hub_below first (k ∷ links) h l (inl e) =
    let grows : first + 1 ≤ hubs_after (hub_after first k) links = subst (λ n. n ≤ hubs_after (hub_after first k) links) (after_wide first k e.0) (hubs_grow (hub_after first k) links) in
    let same = e.1 in
    omega arith
hub_below first (k ∷ links) h l (inr e) = hub_below (hub_after first k) links h l e

-- a number is the own node of one relation at most
pub one_hub : (first : ℕ) (links : List Link) (h : ℕ) (l m : Link) → IsHub first links h l → IsHub first links h m → l ≡ m
one_hub first [] h l m k j = absurd k
one_hub first (k ∷ links) h l m (inl e) (inl d) = e.2 ∙ sym d.2
one_hub first (k ∷ links) h l m (inr e) (inr d) = one_hub (hub_after first k) links h l m e d
one_hub first (k ∷ links) h l m (inl e) (inr d) = absurd (apart first k links h m e.0 e.1 d) where
  apart : (first : ℕ) (k : Link) (links : List Link) (h : ℕ) (m : Link) → is_wide k ≡ true → h ≡ first → IsHub (hub_after first k) links h m → ⊥
  apart first k links h m wide same d = let up = hub_from (hub_after first k) links h m d in let next = after_wide first k wide in omega arith
one_hub first (k ∷ links) h l m (inr d) (inl e) = absurd (apart first k links h l e.0 e.1 d) where
  apart : (first : ℕ) (k : Link) (links : List Link) (h : ℕ) (m : Link) → is_wide k ≡ true → h ≡ first → IsHub (hub_after first k) links h m → ⊥
  apart first k links h m wide same d = let up = hub_from (hub_after first k) links h m d in let next = after_wide first k wide in omega arith

-- and that relation is one of these
pub hub_of_link : (first : ℕ) (links : List Link) (h : ℕ) (l : Link) → IsHub first links h l → Contains links l
hub_of_link first [] h l k = absurd k
hub_of_link first (k ∷ links) h l (inl e) = subst (Contains (k ∷ links)) (sym e.2) (head_in k links)
hub_of_link first (k ∷ links) h l (inr e) = tail_in k l links (hub_of_link (hub_after first k) links h l e)

-- ---- what an edge of these joins

-- an edge of these relations: from side to side, into a relation's own node, or out of it
pub data LinkEdge (first : ℕ) (links : List Link) (x y : ℕ) : Type 0 where
  direct : (l : Link) → Contains links l → Contains l.from x → Contains l.to y → LinkEdge first links x y
  into : (l : Link) → IsHub first links y l → Contains l.from x → LinkEdge first links x y
  out : (l : Link) → IsHub first links x l → Contains l.to y → LinkEdge first links x y

-- an edge of the others is one of all
later : (first : ℕ) (k : Link) (links : List Link) (x y : ℕ) → LinkEdge (hub_after first k) links x y → LinkEdge first (k ∷ links) x y
later first k links x y (LinkEdge.direct l among from to) = LinkEdge.direct l (tail_in k l links among) from to
later first k links x y (LinkEdge.into l hub from) = LinkEdge.into l (inr hub) from
later first k links x y (LinkEdge.out l hub to) = LinkEdge.out l (inr hub) to

-- equal pairs begin alike
first_of : (a b x y : ℕ) → ◌≡◌ {A = ℕ × ℕ} (a, b) (x, y) → a ≡ x
first_of a b x y h = ap (λ (e : ℕ × ℕ). e.0) h

-- and end alike
second_of : (a b x y : ℕ) → ◌≡◌ {A = ℕ × ℕ} (a, b) (x, y) → b ≡ y
second_of a b x y h = ap (λ (e : ℕ × ℕ). e.1) h

-- an edge that is made of the first relation is one of all
here : (first : ℕ) (k : Link) (links : List Link) (x y : ℕ) (t : Bool) → is_wide k ≡ t → Contains (cond t (through first k.from k.to) (crossing k.from k.to)) (x, y) → LinkEdge first (k ∷ links) x y
here first k links x y true wide h =
    either_way
    (λ m.
    let at = in_map (λ a. (a, first)) k.from (x, y) m in
    LinkEdge.into k (inl (wide, sym (second_of at.0 first x y at.2), refl)) (subst (Contains k.from) (first_of at.0 first x y at.2) at.1))
    (λ m.
    let at = in_map (λ b. (first, b)) k.to (x, y) m in
    LinkEdge.out k (inl (wide, sym (first_of first at.0 x y at.2), refl)) (subst (Contains k.to) (second_of first at.0 x y at.2) at.1))
    (Contains-append_cases (map (λ a. (a, first)) k.from) (map (λ b. (first, b)) k.to) (x, y) h)
here first k links x y false wide h =
    let at = in_flat_map (λ a. map (λ b. (a, b)) k.to) k.from (x, y) h in
    let to = in_map (λ b. (at.0, b)) k.to (x, y) at.2 in
    LinkEdge.direct k (head_in k links) (subst (Contains k.from) (first_of at.0 to.0 x y to.2) at.1) (subst (Contains k.to) (second_of at.0 to.0 x y to.2) to.1)

-- each edge that is made is one of the relations
pub link_edge_from : (first : ℕ) (links : List Link) (x y : ℕ) → Contains (edges_of_links first links) (x, y) → LinkEdge first links x y
link_edge_from first [] x y h = absurd (none_in (x, y) h)
link_edge_from first (k ∷ links) x y h =
    either_way (here first k links x y (is_wide k) refl) (λ m. later first k links x y (link_edge_from (hub_after first k) links x y m))
    (Contains-append_cases (link_edges first k) (edges_of_links (hub_after first k) links) (x, y) h)

-- ---- what is joined is joined by an edge or by two

-- an edge leads there, or two through one node
abbrev pub Reached : List (ℕ × ℕ) → ℕ → ℕ → Type 0
Reached es x y = Contains es (x, y) ⊎ ((h : ℕ) × Contains es (x, h) × Contains es (h, y))

-- so it is with edges in front
reached_more : (front es : List (ℕ × ℕ)) (x y : ℕ) → Reached es x y → Reached (front ++ es) x y
reached_more front es x y (inl m) = inl (Contains-append_right front es (x, y) m)
reached_more front es x y (inr m) = inr (m.0, Contains-append_right front es (x, m.0) m.1, Contains-append_right front es (m.0, y) m.2)

-- and with edges behind
reached_here : (es back : List (ℕ × ℕ)) (x y : ℕ) → Reached es x y → Reached (es ++ back) x y
reached_here es back x y (inl m) = inl (Contains-append_left es back (x, y) m)
reached_here es back x y (inr m) = inr (m.0, Contains-append_left es back (x, m.0) m.1, Contains-append_left es back (m.0, y) m.2)

-- from each node of the one side of a relation each of the other is reached
joined : (first : ℕ) (k : Link) (x y : ℕ) (t : Bool) → Contains k.from x → Contains k.to y → Reached (cond t (through first k.from k.to) (crossing k.from k.to)) x y
joined first k x y true from to =
    inr (
      first,
      Contains-append_left (map (λ a. (a, first)) k.from) (map (λ b. (first, b)) k.to) (x, first) (map_in (λ a. (a, first)) k.from x from),
      Contains-append_right (map (λ a. (a, first)) k.from) (map (λ b. (first, b)) k.to) (first, y) (map_in (λ b. (first, b)) k.to y to),
    )
joined first k x y false from to = inl (flat_map_in (λ a. map (λ b. (a, b)) k.to) k.from x (x, y) from (map_in (λ b. (x, b)) k.to y to))

-- so it is of each of the relations
pub link_edge_in : (first : ℕ) (links : List Link) (l : Link) (x y : ℕ) → Contains links l → Contains l.from x → Contains l.to y → Reached (edges_of_links first links) x y
link_edge_in first [] l x y h from to = absurd (none_in l h)
link_edge_in first (k ∷ links) l x y h from to =
    either_way
    (λ e. reached_here (link_edges first k) (edges_of_links (hub_after first k) links) x y
    (joined first k x y (is_wide k) (subst (λ (m : Link). Contains m.from x) (sym e) from) (subst (λ (m : Link). Contains m.to y) (sym e) to)))
    (λ rest. reached_more (link_edges first k) (edges_of_links (hub_after first k) links) x y (link_edge_in (hub_after first k) links l x y rest from to))
    (in_cases k l links h)
