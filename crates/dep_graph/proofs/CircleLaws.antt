-- A cycle of numbers is a circle of nodes.
use Rattle.std.proofs.Common.{◌≡◌, ℕ, ◌+◌, ◌*◌, ◌/◌, ◌%◌, ◌<◌, ◌≤◌, List, [], ◌∷◌, ◌++◌, Bool, true, false, cond, map, refl, sym, ap, subst, ◌∙◌, arith, ltb-true, lt-ltb, eqb-true, eq-eqb}
use Rattle.std.specs.Prelude.{nat_lt, codes, ◌==◌}
use Rattle.std.specs.List.{Contains, AllByRecursion, flat_map}
use Rattle.fs_semantics.specs.Orders.{times}
use Rattle.orders.specs.Paths.{IsCycle}
use Rattle.orders.specs.Paths as paths
use Rattle.pp_eval.specs.Evaluating.{refusal}
use Rattle.catalog_semantics.specs.Catalogs.{Catalog}
use Rattle.graph_semantics.specs.Graphs.{Node, Start, End, rank, Edge, Trail, node_text, IsCircleRefusal, plain_places}
use Rattle.dep_graph.specs.Circles.{node_at, number_text, real_numbers, around_text}
use Rattle.dep_graph.specs.Files.{AreFiles}
use Rattle.dep_graph.specs.Whole.{bound_of, all_edges, AreLinks}
use Rattle.dep_graph.specs.declared.links.Link.{Link}
use Rattle.dep_graph.specs.declared.files.ManagedFile.{ManagedFile}
use Rattle.dep_graph.proofs.ContainerLaws.{IsEdge}
use Rattle.dep_graph.proofs.LinkEdges.{IsHub, hub_from, hub_of_link, one_hub}
use Rattle.dep_graph.proofs.Related.{link_edge, low_from, low_to}
use Rattle.dep_graph.proofs.Steps.{Step, step, one_node, edge_low}
use Rattle.graph_semantics.proofs.Basics.{no_way}

-- ---- a number and its node

-- the node of an even or an odd number has that number
by_parity : (n : ℕ) (t : Bool) → n % 2 == 0 ≡ t → rank (cond t (Start (n / 2)) (End (n / 2))) ≡ n
by_parity n true h = let even = eqb-true (n % 2) 0 h in omega arith
by_parity n false h = let odd : n % 2 ≡ 0 → ⊥ = λ e. no_way (sym h ∙ eq-eqb (n % 2) 0 e) in not_even n odd where
  not_even : (n : ℕ) → (n % 2 ≡ 0 → ⊥) → 2 * (n / 2) + 1 ≡ n
  not_even n odd = omega (arith, odd)

-- the node of a number has that number
pub rank_at : (n : ℕ) → rank (node_at n) ≡ n
rank_at n = by_parity n (n % 2 == 0) refl

-- ---- trails

-- a number of a node is kept
kept : (bound n : ℕ) (rest : List ℕ) → n < bound → real_numbers bound (n ∷ rest) ≡ n ∷ real_numbers bound rest
kept bound n rest h = ap (λ t. cond t (n ∷ real_numbers bound rest) (real_numbers bound rest)) (lt-ltb n bound h)

-- one that only joins the sides of a relation isn't
left_out : (bound n : ℕ) (rest : List ℕ) → bound ≤ n → real_numbers bound (n ∷ rest) ≡ real_numbers bound rest
left_out bound n rest h = step (nat_lt n bound) refl where
  step : (t : Bool) → nat_lt n bound ≡ t → cond t (n ∷ real_numbers bound rest) (real_numbers bound rest) ≡ real_numbers bound rest
  step true is = let less = ltb-true n bound is in absurd (both n bound less h) where
    both : (n bound : ℕ) → n < bound → bound ≤ n → ⊥
    both n bound less h = omega arith
  step false is = refl

module _ (c : Catalog) (links : List Link) (files : List ManagedFile) (are : AreLinks c links) (files_are : AreFiles c (plain_places c) files) where
  -- all edges, by numbers
  abbrev es : List (ℕ × ℕ)
  es = all_edges c links files

  -- the first number that is no node's
  abbrev bound : ℕ
  bound = bound_of c

  -- the nodes of these numbers, without those that only join
  abbrev nodes_at : List ℕ → List Node
  nodes_at numbers = map node_at (real_numbers bound numbers)

  -- both ends of an edge of the graph are nodes
  low_edge : (x y : ℕ) → IsEdge c (x, y) → (x < bound) × (y < bound)
  low_edge x y e =
      let both = edge_low c e.from e.to e.edge in
      (subst (λ n. n < bound) (sym e.from_is) both.from, subst (λ n. n < bound) (sym e.to_is) both.to)

  -- an edge by numbers is one between their nodes
  edge_between : (x y : ℕ) → IsEdge c (x, y) → Edge c (node_at x) (node_at y)
  edge_between x y e =
      subst (λ a. Edge c a (node_at y)) (one_node e.from (node_at x) (sym e.from_is ∙ sym (rank_at x)))
      (subst (Edge c e.from) (one_node e.to (node_at y) (sym e.to_is ∙ sym (rank_at y))) e.edge)

  -- a number that only joins is no node's
  high : (h : ℕ) (l : Link) → IsHub bound links h l → h < bound → ⊥
  high h l hub less = let up = hub_from bound links h l hub in omega arith

  -- what goes into a relation's own node and what goes out of it are joined by an edge
  crossed : (l m : Link) (h w y : ℕ) → IsHub bound links h l → IsHub bound links h m → Contains l.from w → Contains m.to y → IsEdge c (w, y)
  crossed l m h w y hub other from to =
      link_edge c links are l w y (hub_of_link bound links h l hub) from (subst (λ (k : Link). Contains k.to y) (one_hub bound links h m l other hub) to)

  -- a trail from a number to the node z, along these, is one of nodes: from that of the number, or from each that its relation puts first
  record Trails (x : ℕ) (numbers : List ℕ) (z : ℕ) : Type 0 where
    pub node : x < bound → Trail c (node_at x) (nodes_at numbers) (node_at z)
    pub hub : (l : Link) (w : ℕ) → IsHub bound links x l → Contains l.from w → Trail c (node_at w) (nodes_at numbers) (node_at z)

  -- one step is a trail
  last_step : (x z : ℕ) → z < bound → Step c links x z → Trails x [] z
  last_step x z small (Step.node e) = record { node = λ less. edge_between x z e; hub = λ l w hub from. absurd (high x l hub (low_edge x z e).0) }
  last_step x z small (Step.into m hub from) = record { node = λ less. absurd (high z m hub small); hub = λ l w other into. absurd (high z m hub small) }
  last_step x z small (Step.out m hub to) = record {
    node = λ less. absurd (high x m hub less);
    hub = λ l w other from. edge_between w z (crossed l m x w z other hub from to);
  }

  -- an edge before a trail is a trail
  then : (x y z : ℕ) (rest : List ℕ) → IsEdge c (x, y) → Trails y rest z → Trail c (node_at x) (nodes_at (y ∷ rest)) (node_at z)
  then x y z rest e t =
      subst (λ ns. Trail c (node_at x) (map node_at ns) (node_at z)) (sym (kept bound y rest (low_edge x y e).1)) (edge_between x y e, t.node (low_edge x y e).1)

  -- so is a step into a relation's own node, before a trail from there
  over : (x y z : ℕ) (m : Link) (rest : List ℕ) → IsHub bound links y m → Contains m.from x → Trails y rest z → Trail c (node_at x) (nodes_at (y ∷ rest)) (node_at z)
  over x y z m rest hub from t =
      subst (λ ns. Trail c (node_at x) (map node_at ns) (node_at z)) (sym (left_out bound y rest (hub_from bound links y m hub))) (t.hub m x hub from)

  -- so is any step
  more_steps : (x y z : ℕ) (rest : List ℕ) → Step c links x y → Trails y rest z → Trails x (y ∷ rest) z
  more_steps x y z rest (Step.node e) t = record { node = λ less. then x y z rest e t; hub = λ l w hub from. absurd (high x l hub (low_edge x y e).0) }
  more_steps x y z rest (Step.into m hub from) t = record {
    node = λ less. over x y z m rest hub from t;
    hub = λ l w other into. absurd (high x l other (low_from c links are m x (hub_of_link bound links y m hub) from));
  }
  more_steps x y z rest (Step.out m hub to) t = record {
    node = λ less. absurd (high x m hub less);
    hub = λ l w other from. then w y z rest (crossed l m x w y other hub from to) t;
  }

  -- a trail of numbers to a node is one of nodes
  trails : (x : ℕ) (numbers : List ℕ) (z : ℕ) → z < bound → paths.Trail es x numbers z → Trails x numbers z
  trails x [] z small h = last_step x z small (step c links files are files_are x z h)
  trails x (y ∷ rest) z small h = more_steps x y z rest (step c links files are files_are x y h.0) (trails y rest z small h.1)

  -- ---- the least number of a cycle is that of a node

  -- a step to a number that is no less begins at a node
  low_first : (x y : ℕ) → x ≤ y → Step c links x y → x < bound
  low_first x y h (Step.node e) = (low_edge x y e).0
  low_first x y h (Step.into l hub from) = low_from c links are l x (hub_of_link bound links y l hub) from
  low_first x y h (Step.out l hub to) = let less = low_to c links are l y (hub_of_link bound links x l hub) to in omega arith

  -- a circle whose first number is the least begins at a node
  first_low : (first : ℕ) (others : List ℕ) → paths.Trail es first others first → AllByRecursion (λ k. first ≤ k) others → first < bound
  first_low first [] h least = low_first first first (omega arith) (step c links files are files_are first first h)
  first_low first (y ∷ rest) h least = low_first first y least.0 (step c links files are files_are first y h.0)

  -- ---- what holds of all numbers holds of those that are kept

  -- the first node of it is the least
  least_kept : (first : ℕ) (others : List ℕ) → AllByRecursion (λ k. first ≤ k) others → AllByRecursion (λ n. rank (node_at first) ≤ rank n) (nodes_at others)
  least_kept first [] h = tt
  least_kept first (y ∷ rest) h = keep (nat_lt y bound) (least_kept first rest h.1) where
    keep : (t : Bool) → AllByRecursion (λ n. rank (node_at first) ≤ rank n) (nodes_at rest) → AllByRecursion (λ n. rank (node_at first) ≤ rank n) (map node_at (cond t (y ∷ real_numbers bound rest) (real_numbers bound rest)))
    keep true more = (subst (λ m. m ≤ rank (node_at y)) (sym (rank_at first)) (subst (λ m. first ≤ m) (sym (rank_at y)) h.0), more)
    keep false more = more

  -- the numbers of the nodes of numbers are these
  ranks : (numbers : List ℕ) → map rank (map node_at numbers) ≡ numbers
  ranks [] = refl
  ranks (n ∷ numbers) = ap (λ (m : ℕ). m ∷ map rank (map node_at numbers)) (rank_at n) ∙ ap (λ ms. n ∷ ms) (ranks numbers)

  -- a number is kept no more often than it stands
  times_kept : (k : ℕ) (numbers : List ℕ) → times k (real_numbers bound numbers) ≤ times k numbers
  times_kept k [] = omega arith
  times_kept k (n ∷ numbers) = keep (nat_lt n bound) (times_kept k numbers) where
    keep : (t : Bool) → times k (real_numbers bound numbers) ≤ times k numbers → times k (cond t (n ∷ real_numbers bound numbers) (real_numbers bound numbers)) ≤ times k (n ∷ numbers)
    keep true more = omega arith
    keep false more = omega arith

  -- the texts of numbers are those of their nodes
  texts : (numbers : List ℕ) → flat_map (λ n. number_text c n ++ codes " -> ") numbers ≡ flat_map (λ n. node_text c n ++ codes " -> ") (map node_at numbers)
  texts [] = refl
  texts (n ∷ numbers) = ap (λ text. (number_text c n ++ codes " -> ") ++ text) (texts numbers)

  -- a circle of numbers, from its least, is a refusal of the graph
  circle_at : (first : ℕ) (others : List ℕ) → paths.Trail es first others first → AllByRecursion (λ k. first ≤ k) others → ((k : ℕ) → times k (first ∷ others) ≤ 1)
      → IsCircleRefusal c (refusal 41 0 (around_text c bound (first ∷ others)))
  circle_at first others closed least once =
      let small = first_low first others closed least in
      record {
        first = node_at first;
        others = nodes_at others;
        closed = (trails first others first small closed).node small;
        least = least_kept first others least;
        once = λ k.
            let all : map rank (node_at first ∷ nodes_at others) ≡ first ∷ real_numbers bound others =
            ap (λ (m : ℕ). m ∷ map rank (nodes_at others)) (rank_at first) ∙ ap (λ ms. first ∷ ms) (ranks (real_numbers bound others)) in
            let few = times_kept k others in
            let one = once k in
            subst (λ ms. times k ms ≤ 1) (sym all) (fewer k first others few one);
        is = ap (refusal 41 0) (ap (λ ms. flat_map (λ n. number_text c n ++ codes " -> ") ms ++ number_text c first) (kept bound first others small)
            ∙ ap (λ text. text ++ number_text c first) (texts (first ∷ real_numbers bound others)));
      } where
        fewer : (k first : ℕ) (others : List ℕ) → times k (real_numbers bound others) ≤ times k others → times k (first ∷ others) ≤ 1 → times k (first ∷ real_numbers bound others) ≤ 1
        fewer k first others few one = omega arith

  -- a cycle of numbers is a refusal of the graph
  pub circle : (numbers : List ℕ) → IsCycle es numbers → IsCircleRefusal c (refusal 41 0 (around_text c bound numbers))
  circle numbers h =
      subst (λ ns. IsCircleRefusal c (refusal 41 0 (around_text c bound ns))) (sym h.whole)
      (circle_at h.first h.others h.closed h.least (λ k. subst (λ ns. times k ns ≤ 1) h.whole (h.once k)))
