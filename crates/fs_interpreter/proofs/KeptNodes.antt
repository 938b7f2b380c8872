-- How a table is kept, from its nodes to plain lists and back.
use Rattle.std.proofs.Common.{◌≡◌, ◌≢◌, ℕ, zero, suc, Bool, true, false, cond, List, [], ◌∷◌, ◌++◌, length, map, slice_get, Option, Some, None, refl, sym, ap, subst, ◌∙◌, bytes_eq}
use Rattle.indexmap.specs.IndexMap as hashed
use Rattle.indexmap.specs.IndexMap.{IndexMap}
use Rattle.std.proofs.lemmas.Slice.Eq.{bytes_eq-Decides}
use Rattle.fs_semantics.specs.FileTree.{Path, path_eq, parent}
use Rattle.fs_semantics.proofs.Trees.{path_eq_other}
use Rattle.fs_interpreter.specs.Places.{IsTable, HasPath, place_in, content_place, children_in}
use Rattle.fs_interpreter.specs.Kept.{paths_of, listed, IsKept}
use Rattle.fs_interpreter.specs.Growth.{Seen, seen, seen_all, linked, linked_top}
use Rattle.fs_interpreter.specs.declared.table.Node.{Node}
use Rattle.fs_interpreter.specs.declared.table.Table.TheInside.{Inside}
use Rattle.fs_interpreter.proofs.KeptLists.{KeptLists, linked_paths, paths_append}
use Rattle.fs_interpreter.proofs.SearchLaws.{place_there, place_found, content_there, content_found}
use Rattle.fs_interpreter.proofs.AddedLaws.{path_more, content_more}
use Rattle.fs_interpreter.proofs.TableLaws.{length-paths}
use Rattle.rh_base.proofs.Lists.{get_last}

-- what is seen at a place is what is seen of the node there
seen_at : (nodes : List Node) (i : ℕ) (n : Node) → slice_get nodes i ≡ Some n → slice_get (seen_all nodes) i ≡ Some (seen n)
seen_at [] i n h = cc
seen_at (m ∷ nodes) zero n h = let same : m ≡ n = cc in ap (λ (x : Node). Some (seen x)) same
seen_at (m ∷ nodes) (suc i) n h = seen_at nodes i n h

-- and each that is seen is seen of a node at that place
node_of : (nodes : List Node) (i : ℕ) (s : Seen) → slice_get (seen_all nodes) i ≡ Some s → (n : Node) × (slice_get nodes i ≡ Some n) × (seen n ≡ s)
node_of [] i s h = cc
node_of (m ∷ nodes) zero s h = (m, refl, cc)
node_of (m ∷ nodes) (suc i) s h = node_of nodes i s h

-- the paths of what is seen are those of the nodes
pub seen_paths : (nodes : List Node) → map (λ (s : Seen). s.path) (seen_all nodes) ≡ paths_of nodes
seen_paths [] = refl
seen_paths (n ∷ nodes) = ap (λ ps. n.path ∷ ps) (seen_paths nodes)

-- a table that is kept is so over plain lists
pub to_lists : (t : Inside) → IsKept t → KeptLists (paths_of t.nodes.items) (seen_all t.nodes.items) t.top.items t.contents.items (hashed.get path_eq t.places) (hashed.get bytes_eq t.numbers)
to_lists t kept = record {
  are = seen_paths t.nodes.items;
  table = kept.table;
  top = kept.top;
  children = λ i s h. let at = node_of t.nodes.items i s h in
      ap (λ (x : Seen). x.children) (sym at.2) ∙ kept.children i at.0 at.1 ∙ ap (λ (x : Seen). children_in (paths_of t.nodes.items) x.path) at.2;
  parents = λ i s h. let at = node_of t.nodes.items i s h in
      ap (λ (x : Seen). x.parent) (sym at.2) ∙ kept.parents i at.0 at.1 ∙ ap (λ (x : Seen). place_in (paths_of t.nodes.items) (parent x.path)) at.2;
  places = kept.places;
  numbers = kept.numbers;
}

-- and a table that is kept over plain lists is kept
pub from_lists : (t : Inside) → KeptLists (paths_of t.nodes.items) (seen_all t.nodes.items) t.top.items t.contents.items (hashed.get path_eq t.places) (hashed.get bytes_eq t.numbers) → IsKept t
from_lists t kept = record {
  table = kept.table;
  top = kept.top;
  children = λ i n h. kept.children i (seen n) (seen_at t.nodes.items i n h);
  parents = λ i n h. kept.parents i (seen n) (seen_at t.nodes.items i n h);
  places = kept.places;
  numbers = kept.numbers;
}

-- what is kept over lists is kept over the same lists named otherwise
carried : {P P' : List Path} {N N' : List Seen} {T T' : List ℕ} {C C' : List (List ℕ)} {place : Path → Option ℕ} {number : List ℕ → Option ℕ}
    → P ≡ P' → N ≡ N' → T ≡ T' → C ≡ C' → KeptLists P N T C place number → KeptLists P' N' T' C' place number
carried {P} {P'} {N} {N'} {T} {T'} {C} {C'} {place} {number} p n t c kept =
    subst (λ x. KeptLists x N' T' C' place number) p (subst (λ x. KeptLists P x T' C' place number) n (subst (λ x. KeptLists P N x C' place number) t (subst (λ x. KeptLists P N T x place number) c kept)))

-- as many are seen as there are nodes
seen_length : (nodes : List Node) → length (seen_all nodes) ≡ length nodes
seen_length [] = refl
seen_length (n ∷ nodes) = ap suc (seen_length nodes)

-- the paths with a node more
pub more_paths : (nodes more : List Node) (s : Seen) (above : Option ℕ) (i : ℕ) → seen_all more ≡ linked above i (seen_all nodes ++ s ∷ []) → paths_of more ≡ paths_of nodes ++ s.path ∷ []
more_paths nodes more s above i e =
    sym (seen_paths more) ∙ ap (map (λ (x : Seen). x.path)) e ∙ linked_paths above i (seen_all nodes ++ s ∷ []) ∙ paths_append (seen_all nodes) s
    ∙ ap (λ ps. ps ++ s.path ∷ []) (seen_paths nodes)

-- nodes that are seen alike have the same paths
pub same_paths : (nodes more : List Node) → seen_all more ≡ seen_all nodes → paths_of more ≡ paths_of nodes
same_paths nodes more e = sym (seen_paths more) ∙ ap (map (λ (x : Seen). x.path)) e ∙ seen_paths nodes

-- as before, but for what may be left over in the map
pub same_kept : (t u : Inside) → IsKept t → seen_all u.nodes.items ≡ seen_all t.nodes.items → u.top.items ≡ t.top.items → u.contents.items ≡ t.contents.items
    → ((q : Path) (i : ℕ) → place_in (paths_of t.nodes.items) q ≡ Some i → hashed.get path_eq u.places q ≡ Some i)
    → ((d : List ℕ) (i : ℕ) → content_place t.contents.items d ≡ Some i → hashed.get bytes_eq u.numbers d ≡ Some i) → IsKept u
same_kept t u kept nodes top contents places numbers =
    let was = to_lists t kept in
    from_lists u (carried (sym (same_paths t.nodes.items u.nodes.items nodes)) (sym nodes) (sym top) (sym contents)
    (record { are = was.are; table = was.table; top = was.top; children = was.children; parents = was.parents; places = places; numbers = numbers }))

-- a table with a new path, its node linked and its place found, is kept
pub path_kept : (t u : Inside) (p : Path) (above : Option ℕ) (children : List ℕ) (i : ℕ) → IsKept t → p ≢ [] → HasPath (listed t) (parent p) → place_in (paths_of t.nodes.items) p ≡ None
    → place_in (paths_of t.nodes.items) (parent p) ≡ above → children ≡ [] → i ≡ length t.nodes.items
    → ((q : Path) → hashed.get path_eq u.places q ≡ cond (path_eq p q) (Some i) (hashed.get path_eq t.places q))
    → seen_all u.nodes.items ≡ linked above (length t.nodes.items) (seen_all t.nodes.items ++ record { path = p; parent = above; children = children } ∷ [])
    → u.top.items ≡ linked_top above (length t.nodes.items) t.top.items → u.contents.items ≡ t.contents.items → u.numbers ≡ t.numbers → IsKept u
path_kept t u p above children i kept not_root has none at no_children size places nodes top contents numbers =
    let paths = paths_of t.nodes.items in
    let seens = seen_all t.nodes.items in
    let base = path_more paths t.contents.items p kept.table not_root has none seens t.top.items (hashed.get path_eq t.places) (hashed.get bytes_eq t.numbers) (to_lists t kept)
    (hashed.get path_eq u.places) (λ q. places q ∙ ap (λ k. cond (path_eq p q) (Some k) (hashed.get path_eq t.places q)) (size ∙ sym (length-paths t.nodes.items))) in
    let there : paths ++ p ∷ [] ≡ paths_of u.nodes.items = sym (more_paths t.nodes.items u.nodes.items (record { path = p; parent = above; children = children }) above (length t.nodes.items) nodes) in
    let linked_so : linked (place_in paths (parent p)) (length seens) (seens ++ record { path = p; parent = place_in paths (parent p); children = [] } ∷ []) ≡ seen_all u.nodes.items =
    ap (λ n. linked (place_in paths (parent p)) n (seens ++ record { path = p; parent = place_in paths (parent p); children = [] } ∷ [])) (seen_length t.nodes.items)
    ∙ ap (λ a. linked a (length t.nodes.items) (seens ++ record { path = p; parent = a; children = [] } ∷ [])) at
    ∙ ap (λ cs. linked above (length t.nodes.items) (seens ++ record { path = p; parent = above; children = cs } ∷ [])) (sym no_children)
    ∙ sym nodes in
    let top_so : linked_top (place_in paths (parent p)) (length seens) t.top.items ≡ u.top.items =
    ap (λ n. linked_top (place_in paths (parent p)) n t.top.items) (seen_length t.nodes.items) ∙ ap (λ a. linked_top a (length t.nodes.items) t.top.items) at ∙ sym top in
    from_lists u (subst (λ f. KeptLists (paths_of u.nodes.items) (seen_all u.nodes.items) u.top.items u.contents.items (hashed.get path_eq u.places) f) (ap (hashed.get bytes_eq) (sym numbers))
    (carried there linked_so top_so (sym contents) base))

-- the map of contents with one more
pub numbers_more : {S : Type 0} (m n : IndexMap (List ℕ) ℕ S) (key c : List ℕ) (i : ℕ) → key ≡ c
    → ((d : List ℕ) → hashed.get bytes_eq n d ≡ cond (bytes_eq key d) (Some i) (hashed.get bytes_eq m d))
    → (hashed.get bytes_eq n c ≡ Some i) × ((d : List ℕ) → d ≢ c → hashed.get bytes_eq n d ≡ hashed.get bytes_eq m d)
numbers_more m n key c i same more = (
  more c ∙ ap (λ b. cond b (Some i) (hashed.get bytes_eq m c)) ((bytes_eq-Decides key c).1 same),
  (λ d other. more d ∙ ap (λ b. cond b (Some i) (hashed.get bytes_eq m d)) (differ (bytes_eq key d) (λ e. other (sym (sym same ∙ (bytes_eq-Decides key d).0 e))))),
)
  where
    differ : (b : Bool) → (b ≡ true → ⊥) → b ≡ false
    differ true h = absurd (h refl)
    differ false h = refl

-- a table with a new content, its number found, is kept
pub content_kept : (t u : Inside) (c : List ℕ) → IsKept t → content_place t.contents.items c ≡ None → u.nodes ≡ t.nodes → u.top ≡ t.top → u.places ≡ t.places
    → u.contents.items ≡ t.contents.items ++ c ∷ [] → (hashed.get bytes_eq u.numbers c ≡ Some (length t.contents.items)) × ((d : List ℕ) → d ≢ c → hashed.get bytes_eq u.numbers d ≡ hashed.get bytes_eq t.numbers d)
    → IsKept u
content_kept t u c kept none nodes top places contents numbers =
    let base = content_more (paths_of t.nodes.items) t.contents.items c kept.table none (seen_all t.nodes.items) t.top.items (hashed.get path_eq t.places) (hashed.get bytes_eq t.numbers)
    (hashed.get bytes_eq u.numbers) (to_lists t kept) numbers.0 numbers.1 in
    from_lists u (subst (λ f. KeptLists (paths_of u.nodes.items) (seen_all u.nodes.items) u.top.items u.contents.items f (hashed.get bytes_eq u.numbers)) (ap (hashed.get path_eq) (sym places))
    (carried (sym (ap (λ v. paths_of v.items) nodes)) (sym (ap (λ v. seen_all v.items) nodes)) (sym (ap (λ v. v.items) top)) (sym contents) base))

-- what is put last has the last number, and the last place
pub last_number : (paths : List Path) (contents : List (List ℕ)) (c : List ℕ) → IsTable (record { paths = paths; contents = contents ++ c ∷ [] }) → content_place (contents ++ c ∷ []) c ≡ Some (length contents)
last_number paths contents c is =
    let found = content_found (contents ++ c ∷ []) c (length contents) (get_last contents c) in
    found.1 ∙ ap Some (is.contents_once found.0 (length contents) c (content_there (contents ++ c ∷ []) c found.0 found.1) (get_last contents c))

-- and the path that is put last stands at the last place
pub last_place : (paths : List Path) (contents : List (List ℕ)) (p : Path) → IsTable (record { paths = paths ++ p ∷ []; contents = contents }) → place_in (paths ++ p ∷ []) p ≡ Some (length paths)
last_place paths contents p is =
    let found = place_found (paths ++ p ∷ []) p (length paths) (get_last paths p) in
    found.1 ∙ ap Some (is.once found.0 (length paths) p (place_there (paths ++ p ∷ []) p found.0 found.1) (get_last paths p))

-- the map of places with one more
pub places_more : {S : Type 0} (m n : IndexMap Path ℕ S) (key p : Path) (i : ℕ) → key ≡ p → ((q : Path) → hashed.get path_eq n q ≡ cond (path_eq key q) (Some i) (hashed.get path_eq m q))
    → (q : Path) → hashed.get path_eq n q ≡ cond (path_eq p q) (Some i) (hashed.get path_eq m q)
places_more m n key p i same more q = more q ∙ ap (λ r. cond (path_eq r q) (Some i) (hashed.get path_eq m q)) same

-- a path that isn't there differs from one that is
pub absent : (paths : List Path) (p q : Path) (i : ℕ) → place_in paths p ≡ None → place_in paths q ≡ Some i → path_eq p q ≡ false
absent paths p q i none h = path_eq_other p q (λ same. let clash : ◌≡◌ {A = Option ℕ} None (Some i) = sym none ∙ ap (place_in paths) same ∙ h in cc)
