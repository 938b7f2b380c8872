-- The cycle along a list of linked nodes, turned so that its least node comes first.
use Rattle.std.proofs.Common.{◌≡◌, ℕ, suc, ◌+◌, ◌-◌, ◌<◌, ◌≤◌, List, [], ◌∷◌, ◌++◌, length, get_or, take, drop, sym, ap, ◌∙◌, subst, arith}
use Rattle.std.specs.Prelude.{slice_index, Result, Ok, Err, IsErrAnd, IfErr}
use Rattle.std.proofs.lemmas.List.{append-nil, take-append-drop, drop_more, length-append}
use Rattle.fs_semantics.specs.Orders.{times}
use Rattle.orders.specs.Paths.{HasEdge, Path, edge, and_on, Trail, IsCycle}
use Rattle.orders.specs.Search.{AreLinked}
use Rattle.orders.specs.declared.order.OrderFault.{OrderFault}
use Rattle.orders.specs.declared.order.OrderFault.TheVariants.{Cycle, Memory}
use Rattle.orders.specs.Faults.{IfCycle}
use Rattle.orders.specs.Exchanges.{place}
use Rattle.fs_semantics.proofs.Counts.{times_append, all_from}
use Rattle.orders.proofs.Lists.{split_at}
use Rattle.orders.proofs.Walks.{at_place, place_within}

module _ (edges : List (ℕ × ℕ)) where
  -- two trails, one behind the other, are a trail
  trail_joined : (a : ℕ) (xs : List ℕ) (c : ℕ) (ys : List ℕ) (b : ℕ) → Trail edges a xs c → Trail edges c ys b → Trail edges a (xs ++ c ∷ ys) b
  trail_joined a [] c ys b h k = (h, k)
  trail_joined a (x ∷ xs) c ys b h k = (h.0, trail_joined x xs c ys b h.1 k)

  -- the front of a trail is one
  trail_front : (a : ℕ) (xs : List ℕ) (c : ℕ) (ys : List ℕ) (b : ℕ) → Trail edges a (xs ++ c ∷ ys) b → Trail edges a xs c
  trail_front a [] c ys b h = h.0
  trail_front a (x ∷ xs) c ys b h = (h.0, trail_front x xs c ys b h.1)

  -- and so is its end
  trail_back : (a : ℕ) (xs : List ℕ) (c : ℕ) (ys : List ℕ) (b : ℕ) → Trail edges a (xs ++ c ∷ ys) b → Trail edges c ys b
  trail_back a [] c ys b h = h.1
  trail_back a (x ∷ xs) c ys b h = trail_back x xs c ys b h.1

  -- a trail is a path
  trail_path : (a : ℕ) (nodes : List ℕ) (b : ℕ) → Trail edges a nodes b → Path edges a b
  trail_path a [] b h = edge h
  trail_path a (c ∷ nodes) b h = and_on h.0 (trail_path c nodes b h.1)

  -- a node of a cycle reaches itself
  pub cycle_path : (nodes : List ℕ) → IsCycle edges nodes → (a : ℕ) × Path edges a a
  cycle_path nodes h = (h.first, trail_path h.first h.others h.first h.closed)

  -- a cycle of these nodes, in their order
  abbrev Ring : List ℕ → Type 0
  Ring [] = ⊥
  Ring (a ∷ nodes) = Trail edges a nodes a

  -- a ring of nodes may begin at any of them
  turned : (xs : List ℕ) (c : ℕ) (ys : List ℕ) → Ring (xs ++ c ∷ ys) → Ring (c ∷ ys ++ xs)
  turned [] c ys h = subst (λ (zs : List ℕ). Trail edges c zs c) (sym (append-nil ys)) h
  turned (a ∷ xs) c ys h = trail_joined c ys a xs c (trail_back a xs c ys a h) (trail_front a xs c ys a h)

  -- the end of linked nodes is linked
  linked_back : (xs ys : List ℕ) → AreLinked edges (xs ++ ys) → AreLinked edges ys
  linked_back [] ys h = h
  linked_back (x ∷ []) [] h = tt
  linked_back (x ∷ []) (y ∷ ys) h = h.1
  linked_back (x ∷ z ∷ xs) ys h = linked_back (z ∷ xs) ys h.1

  -- linked nodes are a trail to what the last one leads to
  linked_trail : (a : ℕ) (nodes : List ℕ) (b : ℕ) → AreLinked edges (a ∷ nodes) → HasEdge edges (slice_index (a ∷ nodes) (length nodes)) b → Trail edges a nodes b
  linked_trail a [] b h e = e
  linked_trail a (c ∷ nodes) b h e = (h.0, linked_trail c nodes b h.1 e)

-- the last of a list is the last of its end
last_back : (xs : List ℕ) (y : ℕ) (ys : List ℕ) → slice_index (xs ++ y ∷ ys) (length (xs ++ y ∷ ys) - 1) ≡ slice_index (y ∷ ys) (length ys)
last_back [] y ys = ap (slice_index (y ∷ ys)) (let e : suc (length ys) - 1 ≡ length ys = omega arith in e)
last_back (x ∷ xs) y ys =
    let n = length (xs ++ y ∷ ys) in
    let e : suc n - 1 ≡ suc (n - 1) = let f = length-append xs (y ∷ ys) in omega arith in
    ap (slice_index (x ∷ xs ++ y ∷ ys)) e ∙ last_back xs y ys

module _ (list : List ℕ) (start least : ℕ) (node : ℕ) (start_within : start < length list) (found : slice_index list start ≡ node) (once : (k : ℕ) → times k list ≤ 1)
    (least_within : least < length (drop start list)) (is_least : (k : ℕ) → k < length (drop start list) → slice_index (drop start list) least ≤ slice_index (drop start list) k)
    (edges : List (ℕ × ℕ)) (linked : AreLinked edges list) (closes : HasEdge edges (slice_index list (length list - 1)) node) where
  -- the nodes from the start on begin with the node that was found again
  around_is : drop start list ≡ node ∷ drop (start + 1) list
  around_is = drop_more list start 0 start_within ∙ ap (λ v. v ∷ drop (start + 1) list) found

  -- the list is what stands ahead of it, and those
  list_is : list ≡ take start list ++ node ∷ drop (start + 1) list
  list_is = sym (take-append-drop start list) ∙ ap (λ (ys : List ℕ). take start list ++ ys) around_is

  -- they are a ring
  ring : Ring edges (drop start list)
  ring =
      subst (λ (ys : List ℕ). Ring edges ys) (sym around_is)
      (linked_trail edges node (drop (start + 1) list) node (linked_back edges (take start list) (node ∷ drop (start + 1) list) (subst (AreLinked edges) list_is linked))
      (subst (λ (v : ℕ). HasEdge edges v node) (ap (λ (ys : List ℕ). slice_index ys (length ys - 1)) list_is ∙ last_back (take start list) node (drop (start + 1) list)) closes))

  -- the nodes of the ring, from the start on
  abbrev around : List ℕ
  around = drop start list

  -- the least of them
  abbrev first : ℕ
  first = get_or (drop start list) least 0

  -- what stands behind it
  abbrev behind : List ℕ
  behind = drop (least + 1) (drop start list)

  -- what stands ahead of it
  abbrev ahead : List ℕ
  ahead = take least (drop start list)

  -- the ring has what stands ahead, the least one, and what stands behind
  around_parts : around ≡ ahead ++ first ∷ behind
  around_parts = split_at around least least_within

  -- turned, it begins with the least
  nodes_are : drop least around ++ take least around ≡ first ∷ behind ++ ahead
  nodes_are = ap (λ (ys : List ℕ). ys ++ ahead) (drop_more around least 0 least_within)

  -- each stands around as often as in the nodes
  counts : (k : ℕ) → times k (first ∷ behind ++ ahead) ≡ times k around
  counts k =
      let e = times_append k (first ∷ behind) ahead in
      let f = times_append k ahead (first ∷ behind) in
      let g = ap (times k) around_parts in
      omega arith

  -- each node stands there once at most
  counts_le : (k : ℕ) → times k around ≤ 1
  counts_le k = let e = times_append k (take start list) around in let f = ap (times k) (take-append-drop start list) in let g = once k in omega arith

  -- the least one is no greater than the others
  first_le : (k : ℕ) → 1 ≤ times k (behind ++ ahead) → first ≤ k
  first_le k m =
      let there : 1 ≤ times k around = let e = counts k in omega arith in
      subst (λ (v : ℕ). first ≤ v) (at_place k around there) (is_least (place k around) (place_within k around there))

  -- the nodes of the ring, with the least one first, are a cycle
  pub cycle_is : IsCycle edges (drop least around ++ take least around)
  cycle_is = record {
    first = first;
    others = behind ++ ahead;
    whole = nodes_are;
    closed = turned edges ahead first behind (subst (λ (ys : List ℕ). Ring edges ys) around_parts ring);
    least = all_from (λ k. first ≤ k) (behind ++ ahead) first_le;
    once = λ k. let e = counts k in let f = counts_le k in let g = ap (times k) nodes_are in omega arith;
  }

-- what holds of each such cycle holds where the fault is one
pub if_cycle_map : (P Q : List ℕ → Type 0) → ((nodes : List ℕ) → P nodes → Q nodes) → (e : OrderFault) → IfCycle e P → IfCycle e Q
if_cycle_map P Q f (Cycle nodes) h = f nodes h
if_cycle_map P Q f (Memory m) h = tt

-- what holds of each fault that may be returned holds of the fault that is
pub err_of : {T : Type 0} (P : List ℕ → Type 0) (r : Result T OrderFault) (e : OrderFault) → IsErrAnd r (λ x. x ≡ e) → IfCycle e P → IfErr r (λ x. IfCycle x P)
err_of P (Ok t) e h c = tt
err_of P (Err x) e h c = subst (λ (v : OrderFault). IfCycle v P) (sym h) c
