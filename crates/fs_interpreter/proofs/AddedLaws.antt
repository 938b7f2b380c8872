-- A path or a content more in how a table is kept.
use Rattle.std.proofs.Common.{◌≡◌, ◌≢◌, ◌⊎◌, inl, inr, ℕ, zero, suc, ◌<◌, Bool, true, false, cond, List, [], ◌∷◌, ◌++◌, length, map, slice_get, Option, Some, None, refl, sym, ap, subst, ◌∙◌, arith}
use Rattle.std.specs.Prelude.{IfSome}
use Rattle.std.proofs.lemmas.Option.{slice_get_within}
use Rattle.fs_semantics.specs.FileTree.{Path, path_eq, parent}
use Rattle.fs_semantics.proofs.Trees.{path_eq_refl, path_eq_other}
use Rattle.fs_interpreter.specs.Places.{Listed, IsTable, HasPath, place_in, content_place, children_in}
use Rattle.fs_interpreter.specs.Growth.{Seen, linked, linked_top}
use Rattle.fs_interpreter.proofs.SearchLaws.{place_below, place_there, place_found, place_nowhere, no_children, content_there, content_found}
use Rattle.fs_interpreter.proofs.KeptLists.{KeptLists, Was, get_cases, get_front, place_front, place_last, children_last, linked_paths, linked_was, paths_append}
use Rattle.fs_semantics.proofs.ConstructLaws.{parent_other}

-- a path that isn't there is none that is
other : (table : Listed) (p r : Path) → HasPath table r → p ≢ [] → place_in table.paths p ≡ None → p ≢ r
other table p r (inl top) n none e = n (e ∙ top)
other table p r (inr there) n none e = place_nowhere table.paths p none there.0 (there.1 ∙ ap Some (sym e))

-- a path but the new one stands where it stood, or nowhere still
stays : (paths : List Path) (p r : Path) → p ≢ r → place_in (paths ++ p ∷ []) r ≡ place_in paths r
stays paths p r n = elim (place_in paths r) as (λ o. place_in paths r ≡ o → place_in (paths ++ p ∷ []) r ≡ o) [
  | None ↦ λ e. place_last paths p r e ∙ ap (λ b. cond b (Some (length paths)) None) (path_eq_other p r n)
  | Some j ↦ λ e. place_front paths p r j e
] refl

-- there are as many nodes as paths
length_paths : (nodes : List Seen) (paths : List Path) → map (λ s. s.path) nodes ≡ paths → length nodes ≡ length paths
length_paths nodes paths e = same nodes ∙ ap length e
  where
    same : (ns : List Seen) → length ns ≡ length (map (λ (s : Seen). s.path) ns)
    same [] = refl
    same (n ∷ ns) = ap suc (same ns)

-- the path of the node at a place stands at that place of the paths
path_of : (nodes : List Seen) (k : ℕ) (m : Seen) → slice_get nodes k ≡ Some m → slice_get (map (λ (s : Seen). s.path) nodes) k ≡ Some m.path
path_of [] k m h = cc
path_of (n ∷ nodes) zero m h = let same : n ≡ m = cc in ap (λ (s : Seen). Some s.path) same
path_of (n ∷ nodes) (suc k) m h = path_of nodes k m h

-- where each path is found
pub place_more : (paths : List Path) (p : Path) → place_in paths p ≡ None → (place : Path → Option ℕ) → ((q : Path) (i : ℕ) → place_in paths q ≡ Some i → place q ≡ Some i) → (place' : Path → Option ℕ)
    → ((q : Path) → place' q ≡ cond (path_eq p q) (Some (length paths)) (place q)) → (q : Path) (i : ℕ) → place_in (paths ++ p ∷ []) q ≡ Some i → place' q ≡ Some i
place_more paths p none place places place' more q i h = elim (place_in paths q) as (λ o. place_in paths q ≡ o → place' q ≡ Some i) [
  | None ↦ λ e. new (path_eq p q) (sym (place_last paths p q e) ∙ h) (more q)
  | Some j ↦ λ e.
      let differ : path_eq p q ≡ false = path_eq_other p q (λ same. let no : ◌≡◌ {A = Option ℕ} None (Some j) = sym none ∙ ap (place_in paths) same ∙ e in cc) in
      let two : ◌≡◌ {A = Option ℕ} (Some j) (Some i) = sym (place_front paths p q j e) ∙ h in
      more q ∙ ap (λ b. cond b (Some (length paths)) (place q)) differ ∙ places q j e ∙ two
] refl
  where
    new : (b : Bool) → cond b (Some (length paths)) None ≡ Some i → place' q ≡ cond b (Some (length paths)) (place q) → place' q ≡ Some i
    new true k m = m ∙ k
    new false k m = cc

-- the children of a path with a path more are those as before, and the new one if it is a child
last_in : (paths : List Path) (p q : Path) → children_in (paths ++ p ∷ []) q ≡ cond (path_eq (parent p) q) (children_in paths q ++ length paths ∷ []) (children_in paths q)
last_in paths p q = children_last 0 paths p q ∙ ap (λ n. cond (path_eq (parent p) q) (children_in paths q ++ n ∷ []) (children_in paths q)) (omega arith)

module _ (paths : List Path) (contents : List (List ℕ)) (p : Path) (is : IsTable (record { paths = paths; contents = contents })) (not_root : p ≢ []) (covered : HasPath (record { paths = paths; contents = contents }) (parent p))
    (none : place_in paths p ≡ None) where
  -- the table as it was
  abbrev told : Listed
  told = record { paths = paths; contents = contents }

  -- what was the root or in the table is so with a path more
  front : (q : Path) → HasPath told q → (q ≡ []) ⊎ ((j : ℕ) × (slice_get (paths ++ p ∷ []) j ≡ Some q))
  front q (inl top) = inl top
  front q (inr there) = inr (there.0, get_front paths (p ∷ []) q there.0 there.1)

  -- with a path more this is a table still
  table_more : IsTable (record { paths = paths ++ p ∷ []; contents = contents })
  table_more = record {
    once = λ i j q h k. elim (get_cases paths p q i h) [
      | inl a ↦ elim (get_cases paths p q j k) [
        | inl b ↦ is.once i j q a b
        | inr b ↦ absurd (place_nowhere paths p none i (a ∙ ap Some (sym b.1)))
      ]
      | inr a ↦ elim (get_cases paths p q j k) [
        | inl b ↦ absurd (place_nowhere paths p none j (b ∙ ap Some (sym a.1)))
        | inr b ↦ a.0 ∙ sym b.0
      ]
    ];
    no_root = λ i h. elim (get_cases paths p [] i h) [
      | inl a ↦ is.no_root i a
      | inr a ↦ not_root a.1
    ];
    parents = λ i q h. elim (get_cases paths p q i h) [
      | inl a ↦ front (parent q) (is.parents i q a)
      | inr a ↦ subst (λ r. (parent r ≡ []) ⊎ ((j : ℕ) × (slice_get (paths ++ p ∷ []) j ≡ Some (parent r)))) a.1 (front (parent p) covered)
    ];
    before = λ i j q h k. elim (get_cases paths p (parent q) j k) [
      | inl b ↦ elim (get_cases paths p q i h) [
        | inl a ↦ is.before i j q a b
        | inr a ↦ let below = slice_get_within paths j (parent q) b in subst (λ n. j < n) (sym a.0) below
      ]
      | inr b ↦ elim (get_cases paths p q i h) [
        | inl a ↦ absurd (other told p (parent q) (is.parents i q a) not_root none b.1)
        | inr a ↦ absurd (parent_other p not_root (ap parent a.1 ∙ sym b.1))
      ]
    ];
    contents_once = is.contents_once;
  }

  module _ (nodes : List Seen) (tops : List ℕ) (place : Path → Option ℕ) (number : List ℕ → Option ℕ) (kept : KeptLists paths nodes tops contents place number) where
    -- where the parent of the new path stands
    abbrev above : Option ℕ
    above = place_in paths (parent p)

    -- the new node, which has no children yet
    abbrev node : Seen
    node = record { path = p; parent = above; children = [] }

    -- there are as many nodes as paths
    size : length nodes ≡ length paths
    size = length_paths nodes paths kept.are

    -- the path of a node
    its_path : (k : ℕ) (m : Seen) → slice_get nodes k ≡ Some m → slice_get paths k ≡ Some m.path
    its_path k m h = sym (ap (λ ps. slice_get ps k) kept.are) ∙ path_of nodes k m h

    -- what stands at the place above is the parent of the new path
    above_there : (k : ℕ) → above ≡ Some k → slice_get paths k ≡ Some (parent p)
    above_there k e = place_there paths (parent p) k e

    -- the children of the root, with the new one if it is such a child
    top_more : linked_top above (length nodes) tops ≡ children_in (paths ++ p ∷ []) []
    top_more = elim above as (λ o. above ≡ o → linked_top o (length nodes) tops ≡ children_in (paths ++ p ∷ []) []) [
      | None ↦ λ e. elim covered [
        | inl top ↦ ap (λ n. tops ++ n ∷ []) size ∙ ap (λ is. is ++ length paths ∷ []) kept.top
            ∙ sym (last_in paths p [] ∙ ap (λ b. cond b (children_in paths [] ++ length paths ∷ []) (children_in paths [])) (ap (λ r. path_eq r []) top ∙ path_eq_refl []))
        | inr there ↦ absurd (place_nowhere paths (parent p) e there.0 there.1)
      ]
      | Some j ↦ λ e. kept.top
          ∙ sym (last_in paths p [] ∙ ap (λ b. cond b (children_in paths [] ++ length paths ∷ []) (children_in paths []))
          (path_eq_other (parent p) [] (λ z. is.no_root j (above_there j e ∙ ap Some z))))
    ] refl

    -- what the children of a path have become
    no_more : (q : Path) → parent p ≢ q → children_in (paths ++ p ∷ []) q ≡ children_in paths q
    no_more q n = last_in paths p q ∙ ap (λ b. cond b (children_in paths q ++ length paths ∷ []) (children_in paths q)) (path_eq_other (parent p) q n)

    -- the parent of the new path has it as one child more
    one_more : children_in (paths ++ p ∷ []) (parent p) ≡ children_in paths (parent p) ++ length paths ∷ []
    one_more = last_in paths p (parent p) ∙ ap (λ b. cond b (children_in paths (parent p) ++ length paths ∷ []) (children_in paths (parent p))) (path_eq_refl (parent p))

    -- the children of a node that was there are those of its path among the paths with one more
    old_children : (k : ℕ) (m : Seen) (children : List ℕ) → slice_get nodes k ≡ Some m
        → ((above ≡ Some k) × (children ≡ m.children ++ length nodes ∷ [])) ⊎ ((above ≢ Some k) × (children ≡ m.children)) → children ≡ children_in (paths ++ p ∷ []) m.path
    old_children k m children h (inl here) =
        let two : ◌≡◌ {A = Option Path} (Some (parent p)) (Some m.path) = sym (above_there k here.0) ∙ its_path k m h in
        let same : parent p ≡ m.path = cc in
        here.1 ∙ ap (λ n. m.children ++ n ∷ []) size ∙ ap (λ is. is ++ length paths ∷ []) (kept.children k m h ∙ ap (children_in paths) (sym same))
        ∙ sym one_more ∙ ap (children_in (paths ++ p ∷ [])) same
    old_children k m children h (inr not) = not.1 ∙ kept.children k m h ∙ sym (no_more m.path (λ same.
        let there = its_path k m h ∙ ap Some (sym same) in
        let found = place_found paths (parent p) k there in
        let j = is.once found.0 k (parent p) (place_there paths (parent p) found.0 found.1) there in
        not.0 (found.1 ∙ ap Some j)))

    -- the new node has no children among the paths with one more
    new_children : (children : List ℕ) → ((above ≡ Some (length nodes)) × (children ≡ [] ++ length nodes ∷ [])) ⊎ ((above ≢ Some (length nodes)) × (children ≡ [])) → children ≡ children_in (paths ++ p ∷ []) p
    new_children children (inl here) =
        let below = subst (λ o. IfSome o (λ i. i < length paths)) here.0 (place_below paths (parent p)) in
        let s = size in absurd (omega arith)
    new_children children (inr not) = not.1 ∙ no_children told p is not_root none ∙ sym (no_more p (parent_other p not_root))

    -- each of the linked nodes is one of before or the new one, with a child more at the place above
    was : (k : ℕ) (s : Seen) → slice_get (linked above (length nodes) (nodes ++ node ∷ [])) k ≡ Some s → Was above (length nodes) (nodes ++ node ∷ []) k s
    was k s h = linked_was above (length nodes) (nodes ++ node ∷ []) k s h

    -- the children of each node are those of its path among the paths with one more
    children_more : (k : ℕ) (s : Seen) → slice_get (linked above (length nodes) (nodes ++ node ∷ [])) k ≡ Some s → s.children ≡ children_in (paths ++ p ∷ []) s.path
    children_more k s h =
        let w = was k s h in
        elim (get_cases nodes node w.node k w.there) [
          | inl old ↦ old_children k w.node s.children old w.children ∙ ap (children_in (paths ++ p ∷ [])) (sym w.path)
          | inr new ↦
              new_children s.children (subst (λ n. ((above ≡ Some n) × (s.children ≡ [] ++ length nodes ∷ [])) ⊎ ((above ≢ Some n) × (s.children ≡ []))) new.0
              (subst (λ (m : Seen). ((above ≡ Some k) × (s.children ≡ m.children ++ length nodes ∷ [])) ⊎ ((above ≢ Some k) × (s.children ≡ m.children))) (sym new.1) w.children))
              ∙ ap (children_in (paths ++ p ∷ [])) (ap (λ (m : Seen). m.path) new.1 ∙ sym w.path)
        ]

    -- the parent of each node stands where the parent of its path stands among the paths with one more
    parents_more : (k : ℕ) (s : Seen) → slice_get (linked above (length nodes) (nodes ++ node ∷ [])) k ≡ Some s → s.parent ≡ place_in (paths ++ p ∷ []) (parent s.path)
    parents_more k s h =
        let w = was k s h in
        elim (get_cases nodes node w.node k w.there) [
          | inl old ↦ w.parent ∙ kept.parents k w.node old
              ∙ sym (stays paths p (parent w.node.path) (other told p (parent w.node.path) (is.parents k w.node.path (its_path k w.node old)) not_root none))
              ∙ ap (λ q. place_in (paths ++ p ∷ []) (parent q)) (sym w.path)
          | inr new ↦ w.parent ∙ ap (λ (m : Seen). m.parent) (sym new.1) ∙ sym (stays paths p (parent p) (other told p (parent p) covered not_root none))
              ∙ ap (λ q. place_in (paths ++ p ∷ []) (parent q)) (ap (λ (m : Seen). m.path) new.1 ∙ sym w.path)
        ]

    -- with a new path, its node linked and its place found, the table is kept as before
    pub path_more : (place' : Path → Option ℕ) → ((q : Path) → place' q ≡ cond (path_eq p q) (Some (length paths)) (place q))
        → KeptLists (paths ++ p ∷ []) (linked above (length nodes) (nodes ++ node ∷ [])) (linked_top above (length nodes) tops) contents place' number
    path_more place' more = record {
      are = linked_paths above (length nodes) (nodes ++ node ∷ []) ∙ paths_append nodes node ∙ ap (λ ps. ps ++ p ∷ []) kept.are;
      table = table_more;
      top = top_more;
      children = children_more;
      parents = parents_more;
      places = λ q i h. place_more paths p none place kept.places place' more q i h;
      numbers = kept.numbers;
    }

-- ---- a content more

module _ (paths : List Path) (contents : List (List ℕ)) (c : List ℕ) (is : IsTable (record { paths = paths; contents = contents })) (none : content_place contents c ≡ None) where
  -- the new content stands at no place yet
  not_there : (i : ℕ) → slice_get contents i ≢ Some c
  not_there i h = let found = content_found contents c i h in let no : ◌≡◌ {A = Option ℕ} None (Some found.0) = sym none ∙ found.1 in cc

  -- with one more each content stands at one place still
  contents_more : (i j : ℕ) (d : List ℕ) → slice_get (contents ++ c ∷ []) i ≡ Some d → slice_get (contents ++ c ∷ []) j ≡ Some d → i ≡ j
  contents_more i j d h k = elim (get_cases contents c d i h) [
    | inl a ↦ elim (get_cases contents c d j k) [
      | inl b ↦ is.contents_once i j d a b
      | inr b ↦ absurd (not_there i (a ∙ ap Some (sym b.1)))
    ]
    | inr a ↦ elim (get_cases contents c d j k) [
      | inl b ↦ absurd (not_there j (b ∙ ap Some (sym a.1)))
      | inr b ↦ a.0 ∙ sym b.0
    ]
  ]

  -- with a new content, its number found, the table is kept as before
  pub content_more : (nodes : List Seen) (tops : List ℕ) (place : Path → Option ℕ) (number number' : List ℕ → Option ℕ) → KeptLists paths nodes tops contents place number
      → number' c ≡ Some (length contents) → ((d : List ℕ) → d ≢ c → number' d ≡ number d) → KeptLists paths nodes tops (contents ++ c ∷ []) place number'
  content_more nodes tops place number number' kept here elsewhere = record {
    are = kept.are;
    table = record { once = is.once; no_root = is.no_root; parents = is.parents; before = is.before; contents_once = contents_more };
    top = kept.top;
    children = kept.children;
    parents = kept.parents;
    places = kept.places;
    numbers = λ d i h. elim (get_cases contents c d i (content_there (contents ++ c ∷ []) d i h)) [
      | inl a ↦ let found = content_found contents d i a in
          elsewhere d (λ same. not_there i (a ∙ ap Some same)) ∙ kept.numbers d found.0 found.1 ∙ ap Some (is.contents_once found.0 i d (content_there contents d found.0 found.1) a)
      | inr a ↦ ap number' (sym a.1) ∙ here ∙ ap Some (sym a.0)
    ];
  }
