-- How a table is kept, over plain lists, and a path or a content more.
use Rattle.std.proofs.Common.{◌≡◌, ◌≢◌, ◌⊎◌, inl, inr, ℕ, zero, suc, ◌+◌, Bool, true, false, cond, List, [], ◌∷◌, ◌++◌, length, map, slice_get, Option, Some, None, refl, sym, ap, ◌∙◌, arith}
use Rattle.fs_semantics.specs.FileTree.{Path, path_eq, parent}
use Rattle.fs_interpreter.specs.Places.{IsTable, one_further, place_in, content_place, children_from, children_in}
use Rattle.fs_interpreter.specs.Growth.{Seen, with_child, linked}

-- what `IsKept` says, over the plain lists and the two maps as functions
pub record KeptLists (paths : List Path) (nodes : List Seen) (tops : List ℕ) (contents : List (List ℕ)) (place : Path → Option ℕ) (number : List ℕ → Option ℕ) : Type 0 where
  pub are : map (λ s. s.path) nodes ≡ paths
  pub table : IsTable (record { paths = paths; contents = contents })
  pub top : tops ≡ children_in paths []
  pub children : (i : ℕ) (n : Seen) → slice_get nodes i ≡ Some n → n.children ≡ children_in paths n.path
  pub parents : (i : ℕ) (n : Seen) → slice_get nodes i ≡ Some n → n.parent ≡ place_in paths (parent n.path)
  pub places : (p : Path) (i : ℕ) → place_in paths p ≡ Some i → place p ≡ Some i
  pub numbers : (c : List ℕ) (i : ℕ) → content_place contents c ≡ Some i → number c ≡ Some i

-- ---- a list with one more at its end

-- what stands in a list with one more stood there, or is that one at the end
pub get_cases : {X : Type 0} (xs : List X) (x y : X) (i : ℕ) → slice_get (xs ++ x ∷ []) i ≡ Some y → (slice_get xs i ≡ Some y) ⊎ ((i ≡ length xs) × (x ≡ y))
get_cases [] x y zero h = inr (refl, cc)
get_cases [] x y (suc i) h = cc
get_cases (z ∷ xs) x y zero h = inl h
get_cases (z ∷ xs) x y (suc i) h = elim (get_cases xs x y i h) [
  | inl there ↦ inl there
  | inr last ↦ inr (ap suc last.0, last.1)
]

-- what stands in a list stands at the same place when more comes behind it
pub get_front : {X : Type 0} (xs ys : List X) (y : X) (i : ℕ) → slice_get xs i ≡ Some y → slice_get (xs ++ ys) i ≡ Some y
get_front [] ys y i h = cc
get_front (x ∷ xs) ys y zero h = h
get_front (x ∷ xs) ys y (suc i) h = get_front xs ys y i h

-- a path that is found is found at the same place when one more comes behind
pub place_front : (paths : List Path) (p q : Path) (i : ℕ) → place_in paths q ≡ Some i → place_in (paths ++ p ∷ []) q ≡ Some i
place_front [] p q i h = cc
place_front (r ∷ paths) p q i h = elim (path_eq r q) as (λ b. cond b (Some 0) (one_further (place_in paths q)) ≡ Some i → cond b (Some 0) (one_further (place_in (paths ++ p ∷ []) q)) ≡ Some i) [
  | true ↦ λ k. k
  | false ↦ λ k. elim (place_in paths q) as (λ o. place_in paths q ≡ o → one_further o ≡ Some i → one_further (place_in (paths ++ p ∷ []) q) ≡ Some i) [
    | None ↦ λ e l. cc
    | Some j ↦ λ e l. ap one_further (place_front paths p q j e) ∙ l
  ] refl k
] h

-- a path that wasn't found is found at the end exactly where it is the new one
pub place_last : (paths : List Path) (p q : Path) → place_in paths q ≡ None → place_in (paths ++ p ∷ []) q ≡ cond (path_eq p q) (Some (length paths)) None
place_last [] p q h = refl
place_last (r ∷ paths) p q h = elim (path_eq r q) as (λ b. cond b (Some 0) (one_further (place_in paths q)) ≡ None → cond b (Some 0) (one_further (place_in (paths ++ p ∷ []) q)) ≡ cond (path_eq p q) (Some (suc (length paths))) None) [
  | true ↦ λ k. cc
  | false ↦ λ k. elim (place_in paths q) as (λ o. place_in paths q ≡ o → one_further o ≡ None → one_further (place_in (paths ++ p ∷ []) q) ≡ cond (path_eq p q) (Some (suc (length paths))) None) [
    | None ↦ λ e l. ap one_further (place_last paths p q e) ∙ further (path_eq p q) (length paths)
    | Some j ↦ λ e l. cc
  ] refl k
] h
  where
    further : (b : Bool) (n : ℕ) → one_further (cond b (Some n) None) ≡ cond b (Some (suc n)) None
    further true n = refl
    further false n = refl

-- the children of a path with a path more are those as before, and the new one if it is a child
pub children_last : (k : ℕ) (paths : List Path) (p q : Path)
    → children_from k (paths ++ p ∷ []) q ≡ cond (path_eq (parent p) q) (children_from k paths q ++ (k + length paths) ∷ []) (children_from k paths q)
children_last k [] p q = ap (λ n. cond (path_eq (parent p) q) (n ∷ []) []) (omega arith)
children_last k (r ∷ paths) p q =
    ap (λ is. cond (path_eq (parent r) q) (k ∷ is) is) (children_last (suc k) paths p q)
    ∙ inside (path_eq (parent r) q) (path_eq (parent p) q) (children_from (suc k) paths q) (suc k + length paths) (k + suc (length paths)) (omega arith)
  where
    inside : (a b : Bool) (is : List ℕ) (m n : ℕ) → m ≡ n → cond a (k ∷ cond b (is ++ m ∷ []) is) (cond b (is ++ m ∷ []) is) ≡ cond b (cond a (k ∷ is) is ++ n ∷ []) (cond a (k ∷ is) is)
    inside true true is m n e = ap (λ x. k ∷ is ++ x ∷ []) e
    inside true false is m n e = refl
    inside false true is m n e = ap (λ x. is ++ x ∷ []) e
    inside false false is m n e = refl

-- ---- nodes that are linked

-- a child more leaves the paths of the nodes as they were
child_paths : (j i : ℕ) (nodes : List Seen) → map (λ s. s.path) (with_child j i nodes) ≡ map (λ s. s.path) nodes
child_paths j i [] = refl
child_paths zero i (s ∷ nodes) = refl
child_paths (suc j) i (s ∷ nodes) = ap (λ ps. s.path ∷ ps) (child_paths j i nodes)

-- and so does a link to the place above
pub linked_paths : (above : Option ℕ) (i : ℕ) (nodes : List Seen) → map (λ s. s.path) (linked above i nodes) ≡ map (λ s. s.path) nodes
linked_paths None i nodes = refl
linked_paths (Some j) i nodes = child_paths j i nodes

-- the paths of nodes with one more are those with its path at the end
pub paths_append : (xs : List Seen) (s : Seen) → map (λ s. s.path) (xs ++ s ∷ []) ≡ map (λ s. s.path) xs ++ s.path ∷ []
paths_append [] s = refl
paths_append (x ∷ xs) s = ap (λ ps. x.path ∷ ps) (paths_append xs s)

-- what was there before
pub record Was (above : Option ℕ) (i : ℕ) (nodes : List Seen) (k : ℕ) (s : Seen) : Type 0 where
  pub node : Seen
  pub there : slice_get nodes k ≡ Some node
  pub path : s.path ≡ node.path
  pub parent : s.parent ≡ node.parent
  pub children : ((above ≡ Some k) × (s.children ≡ node.children ++ i ∷ [])) ⊎ ((above ≢ Some k) × (s.children ≡ node.children))

-- with a child more at one place, each node was there, with that child less if it is at that place
child_was : (j i : ℕ) (nodes : List Seen) (k : ℕ) (s : Seen) → slice_get (with_child j i nodes) k ≡ Some s → Was (Some j) i nodes k s
child_was j i [] k s h = cc
child_was zero i (m ∷ nodes) zero s h =
    let same : record { path = m.path; parent = m.parent; children = m.children ++ i ∷ [] } ≡ s = cc in
    record { node = m; there = refl; path = sym (ap (λ (x : Seen). x.path) same); parent = sym (ap (λ (x : Seen). x.parent) same); children = inl (refl, sym (ap (λ (x : Seen). x.children) same)) }
child_was zero i (m ∷ nodes) (suc k) s h = record { node = s; there = h; path = refl; parent = refl; children = inr ((λ e. cc), refl) }
child_was (suc j) i (m ∷ nodes) zero s h = record { node = s; there = h; path = refl; parent = refl; children = inr ((λ e. cc), refl) }
child_was (suc j) i (m ∷ nodes) (suc k) s h = let was = child_was j i nodes k s h in record {
  node = was.node;
  there = was.there;
  path = was.path;
  parent = was.parent;
  children = elim was.children [
    | inl here ↦ inl ((let e : j ≡ k = (let f = here.0 in cc) in ap (λ n. Some (suc n)) e), here.1)
    | inr other ↦ inr ((λ e. let f : j ≡ k = cc in other.0 (ap Some f)), other.1)
  ];
}

-- and so it is where the new place is linked to the one above, or to the root
pub linked_was : (above : Option ℕ) (i : ℕ) (nodes : List Seen) (k : ℕ) (s : Seen) → slice_get (linked above i nodes) k ≡ Some s → Was above i nodes k s
linked_was None i nodes k s h = record { node = s; there = h; path = refl; parent = refl; children = inr ((λ e. cc), refl) }
linked_was (Some j) i nodes k s h = child_was j i nodes k s h
