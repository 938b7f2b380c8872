-- What a table finds, from how it is kept.
use Rattle.std.proofs.Common.{◌≡◌, ◌≢◌, ℕ, zero, suc, ◌<◌, ◌≤◌, List, [], ◌∷◌, length, get_or, ◌==◌, Bool, true, false, Option, Some, None, refl, sym, ap, subst, ◌∙◌, arith}
use Rattle.std.specs.Prelude.{◌↔◌, IfSome, slice_get, IsTrue}
use Rattle.std.specs.List.{AllByRecursion}
use Rattle.std.specs.Str.{bytes_eq}
use Rattle.std.proofs.lemmas.Slice.Eq.{bytes_eq-Decides}
use Rattle.indexmap.specs.IndexMap as hashed
use Rattle.std.proofs.lemmas.Option.{slice_get_read, slice_get_within}
use Rattle.fs_semantics.specs.FileTree.{Path, path_eq, parent}
use Rattle.fs_semantics.proofs.Trees.{path_eq_same, path_eq_refl}
use Rattle.fs_interpreter.specs.Places.{Listed, IsTable, place_in, content_place, children_in}
use Rattle.fs_interpreter.specs.Kept.{paths_of, listed, IsKept}
use Rattle.fs_interpreter.specs.declared.table.Node.{Node}
use Rattle.fs_interpreter.specs.declared.table.Table.TheInside.{Inside}
use Rattle.fs_interpreter.proofs.SearchLaws.{place_below, place_there, place_found, children_below, no_children, content_there, content_found}

-- what is at a place of a list, in the list of the paths
pub path_at : (nodes : List Node) (i : ℕ) (n : Node) → slice_get nodes i ≡ Some n → slice_get (paths_of nodes) i ≡ Some n.path
path_at [] i n h = cc
path_at (m ∷ nodes) zero n h = let same : m ≡ n = cc in ap (λ (x : Node). Some x.path) same
path_at (m ∷ nodes) (suc i) n h = path_at nodes i n h

-- the path at a place is that of the node there
pub node_at : (nodes : List Node) (i : ℕ) (p : Path) → slice_get (paths_of nodes) i ≡ Some p → (n : Node) × (slice_get nodes i ≡ Some n) × (n.path ≡ p)
node_at [] i p h = cc
node_at (m ∷ nodes) zero p h = (m, refl, cc)
node_at (m ∷ nodes) (suc i) p h = node_at nodes i p h

-- there are as many paths as nodes
pub length-paths : (nodes : List Node) → length (paths_of nodes) ≡ length nodes
length-paths [] = refl
length-paths (n ∷ nodes) = ap suc (length-paths nodes)

-- the node that an index reads
pub read_node : (nodes : List Node) (i : ℕ) (n : Node) → i < length nodes → n ≡ get_or nodes i n → slice_get nodes i ≡ Some n
read_node nodes i n h e = slice_get_read nodes (length nodes) i n refl h e

-- the path at a place is this one exactly where the two compare so
pub at_exactly : (nodes : List Node) (i : ℕ) (n : Node) (p : Path) → slice_get nodes i ≡ Some n → IsTrue (path_eq n.path p) ↔ (slice_get (paths_of nodes) i ≡ Some p)
at_exactly nodes i n p h = (
  (λ e. path_at nodes i n h ∙ ap Some (path_eq_same n.path p e)),
  (λ e. let two : ◌≡◌ {A = Option Path} (Some n.path) (Some p) = sym (path_at nodes i n h) ∙ e in
      let same : n.path ≡ p = cc in ap (λ q. path_eq q p) same ∙ path_eq_refl p),
)

-- past the end of the nodes no path stands
pub past_end : (nodes : List Node) (i : ℕ) (p : Path) → length nodes ≤ i → slice_get (paths_of nodes) i ≢ Some p
past_end nodes i p h e = let below = slice_get_within (paths_of nodes) i p e in let n = length-paths nodes in absurd (omega arith)

-- what is found in the map and compared is the place
pub place_is : (t : Inside) (p : Path) (i : ℕ) → IsKept t → slice_get (paths_of t.nodes.items) i ≡ Some p → place_in (paths_of t.nodes.items) p ≡ Some i
place_is t p i kept h =
    let found = place_found (paths_of t.nodes.items) p i h in
    found.1 ∙ ap Some (kept.table.once found.0 i p (place_there (paths_of t.nodes.items) p found.0 found.1) h)

-- where the map leads to no place with this path, it has no place
pub no_place : (t : Inside) (p : Path) → IsKept t → ((i : ℕ) → hashed.get path_eq t.places p ≡ Some i → slice_get (paths_of t.nodes.items) i ≢ Some p) → place_in (paths_of t.nodes.items) p ≡ None
no_place t p kept none = elim (place_in (paths_of t.nodes.items) p) as (λ o. place_in (paths_of t.nodes.items) p ≡ o → o ≡ None) [
  | None ↦ λ e. refl
  | Some i ↦ λ e. absurd (none i (kept.places p i e) (place_there (paths_of t.nodes.items) p i e))
] refl

-- the same of contents
pub number_is : (t : Inside) (c : List ℕ) (i : ℕ) → IsKept t → slice_get t.contents.items i ≡ Some c → content_place t.contents.items c ≡ Some i
number_is t c i kept h =
    let found = content_found t.contents.items c i h in
    found.1 ∙ ap Some (kept.table.contents_once found.0 i c (content_there t.contents.items c found.0 found.1) h)

-- where the map leads to no place with this content, it has no number
pub no_number : (t : Inside) (c : List ℕ) → IsKept t → ((i : ℕ) → hashed.get bytes_eq t.numbers c ≡ Some i → slice_get t.contents.items i ≢ Some c) → content_place t.contents.items c ≡ None
no_number t c kept none = elim (content_place t.contents.items c) as (λ o. content_place t.contents.items c ≡ o → o ≡ None) [
  | None ↦ λ e. refl
  | Some i ↦ λ e. absurd (none i (kept.numbers c i e) (content_there t.contents.items c i e))
] refl

-- the places of a path's children are within the list
pub all_children_below : (paths : List Path) (p : Path) (places : List ℕ) → places ≡ children_in paths p → AllByRecursion (λ i. i < length paths) places
all_children_below paths p places e = subst (λ is. AllByRecursion (λ i. i < length paths) is) (sym e) (children_below paths p)

-- ---- in the lists that contracts see

-- the comparison at a place tells whether this path stands there
pub at_seen : (t : Inside) (table : Listed) (i : ℕ) (n : Node) (p : Path) (b : Bool) → listed t ≡ table → i < length t.nodes.items → n ≡ get_or t.nodes.items i n → b ≡ path_eq n.path p
    → IsTrue b ↔ (slice_get table.paths i ≡ Some p)
at_seen t table i n p b view below is e =
    let exact = at_exactly t.nodes.items i n p (read_node t.nodes.items i n below is) in
    subst (λ (x : Listed). IsTrue b ↔ (slice_get x.paths i ≡ Some p)) view (subst (λ v. IsTrue v ↔ (slice_get (paths_of t.nodes.items) i ≡ Some p)) (sym e) exact)

-- past the end of the nodes no path stands
pub past_seen : (t : Inside) (table : Listed) (i : ℕ) (p : Path) → listed t ≡ table → length t.nodes.items ≤ i → slice_get table.paths i ≢ Some p
past_seen t table i p view h e = past_end t.nodes.items i p h (ap (λ (x : Listed). slice_get x.paths i) view ∙ e)

-- a path that stands at a place has that place
pub place_seen : (t : Inside) (table : Listed) (p : Path) (i : ℕ) → listed t ≡ table → IsKept t → slice_get table.paths i ≡ Some p → Some i ≡ place_in table.paths p
place_seen t table p i view kept h =
    sym (sym (ap (λ (x : Listed). place_in x.paths p) view) ∙ place_is t p i kept (ap (λ (x : Listed). slice_get x.paths i) view ∙ h))

-- where the place that the map has isn't this path's, it has none
pub no_place_seen : (t : Inside) (table : Listed) (p : Path) (i : ℕ) → listed t ≡ table → IsKept t → Some i ≡ hashed.get path_eq t.places p → slice_get table.paths i ≢ Some p → None ≡ place_in table.paths p
no_place_seen t table p i view kept found other =
    sym (sym (ap (λ (x : Listed). place_in x.paths p) view) ∙ no_place t p kept (λ j h e.
    let two : ◌≡◌ {A = Option ℕ} (Some i) (Some j) = found ∙ h in
    let same : j ≡ i = cc in
    other (sym (ap (λ (x : Listed). slice_get x.paths i) view) ∙ subst (λ k. slice_get (paths_of t.nodes.items) k ≡ Some p) same e)))

-- the comparison at a number tells whether this content stands there
pub content_seen : (t : Inside) (table : Listed) (n : ℕ) (d e c : List ℕ) (b : Bool) → listed t ≡ table → n < length t.contents.items → d ≡ get_or t.contents.items n d → b ≡ bytes_eq e c → e ≡ d
    → IsTrue b ↔ (slice_get table.contents n ≡ Some c)
content_seen t table n d e c b view below is k l =
    let got = slice_get_read t.contents.items (length t.contents.items) n d refl below is in
    let same : b ≡ bytes_eq d c = k ∙ ap (λ x. bytes_eq x c) l in
    let there : slice_get table.contents n ≡ Some d = sym (ap (λ (x : Listed). slice_get x.contents n) view) ∙ got in (
      (λ h. there ∙ ap Some ((bytes_eq-Decides d c).0 (sym same ∙ h))),
      (λ h. let two : ◌≡◌ {A = Option (List ℕ)} (Some d) (Some c) = sym there ∙ h in let equal : d ≡ c = cc in same ∙ (bytes_eq-Decides d c).1 equal),
    )

-- past the end of the contents none stands
pub no_content_seen : (t : Inside) (table : Listed) (n : ℕ) (c : List ℕ) → listed t ≡ table → length t.contents.items ≤ n → slice_get table.contents n ≢ Some c
no_content_seen t table n c view h e =
    let there = ap (λ (x : Listed). slice_get x.contents n) view ∙ e in
    let below = slice_get_within t.contents.items n c there in
    absurd (omega arith)

-- a content that stands at a number has that number
pub number_seen : (t : Inside) (table : Listed) (c : List ℕ) (i : ℕ) → listed t ≡ table → IsKept t → slice_get table.contents i ≡ Some c → Some i ≡ content_place table.contents c
number_seen t table c i view kept h =
    sym (sym (ap (λ (x : Listed). content_place x.contents c) view) ∙ number_is t c i kept (ap (λ (x : Listed). slice_get x.contents i) view ∙ h))

-- where the number that the map has isn't this content's, it has none
pub no_number_seen : (t : Inside) (table : Listed) (c : List ℕ) (i : ℕ) → listed t ≡ table → IsKept t → Some i ≡ hashed.get bytes_eq t.numbers c → slice_get table.contents i ≢ Some c → None ≡ content_place table.contents c
no_number_seen t table c i view kept found other =
    sym (sym (ap (λ (x : Listed). content_place x.contents c) view) ∙ no_number t c kept (λ j h k.
    let two : ◌≡◌ {A = Option ℕ} (Some i) (Some j) = found ∙ h in
    let same : j ≡ i = cc in
    other (sym (ap (λ (x : Listed). slice_get x.contents i) view) ∙ subst (λ m. slice_get t.contents.items m ≡ Some c) same k)))

-- the place of a path is within the table
pub seen_below : (table : Listed) (p : Path) (i : ℕ) → Some i ≡ place_in table.paths p → i < length table.paths
seen_below table p i h = subst (λ o. IfSome o (λ j. j < length table.paths)) (sym h) (place_below table.paths p)

-- the table has as many paths as there are nodes
same_length : (t : Inside) (table : Listed) → listed t ≡ table → length table.paths ≡ length t.nodes.items
same_length t table view = sym (ap (λ (x : Listed). length x.paths) view) ∙ length-paths t.nodes.items

-- the place of a node's parent, where it has one, is within the table
pub parent_seen : (t : Inside) (table : Listed) (i : ℕ) (n : Node) → listed t ≡ table → IsKept t → i < length table.paths → n ≡ get_or t.nodes.items i n → IfSome n.parent (λ j. j < length table.paths)
parent_seen t table i n view kept below is =
    let size = same_length t table view in
    let got = read_node t.nodes.items i n (omega (arith, below, size)) is in
    subst (λ (x : Listed). IfSome n.parent (λ j. j < length x.paths)) view
    (subst (λ o. IfSome o (λ j. j < length (paths_of t.nodes.items))) (sym (kept.parents i n got)) (place_below (paths_of t.nodes.items) (parent n.path)))

-- the children that a node lists are those of its path
pub children_seen : (t : Inside) (table : Listed) (p : Path) (i : ℕ) (n : Node) → listed t ≡ table → IsKept t → place_in table.paths p ≡ Some i → i < length table.paths → n ≡ get_or t.nodes.items i n → n.children.items ≡ children_in table.paths p
children_seen t table p i n view kept at below is =
    let size = same_length t table view in
    let got = read_node t.nodes.items i n (omega (arith, below, size)) is in
    let here = place_there (paths_of t.nodes.items) p i (ap (λ (x : Listed). place_in x.paths p) view ∙ at) in
    let two : ◌≡◌ {A = Option Path} (Some n.path) (Some p) = sym (path_at t.nodes.items i n got) ∙ here in
    let same : n.path ≡ p = cc in
    kept.children i n got ∙ ap (children_in (paths_of t.nodes.items)) same ∙ ap (λ (x : Listed). children_in x.paths p) view

-- a path that is neither the root nor in the table has no children there
pub no_children_seen : (t : Inside) (table : Listed) (p : Path) → listed t ≡ table → IsKept t → place_in table.paths p ≡ None → ((length p == 0) ≡ false) → [] ≡ children_in table.paths p
no_children_seen t table p view kept none e =
    no_children table p (subst IsTable view kept.table) (λ h. let z : ◌≡◌ {A = Bool} true false = ap (λ (q : Path). length q == 0) (sym h) ∙ e in cc) none
