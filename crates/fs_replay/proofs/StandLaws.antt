-- Cells that are made of a tree place by place, and a tree that is made of cells.
use Rattle.std.proofs.Common.{◌≡◌, ◌≢◌, ◌⊎◌, inl, inr, ℕ, zero, suc, ◌+◌, ◌<◌, ◌≤◌, Bool, true, false, cond, List, [], ◌∷◌, ◌++◌, length, slice_get, Option, Some, None, option_map, is_some, IsTrue, IfSome, refl, sym, ap, subst, ◌∙◌, arith}
use Rattle.std.specs.FinMap as map
use Rattle.std.specs.FinMap.{find, get-entries}
use Rattle.std.specs.List.{AllByRecursion}
use Rattle.std.proofs.lemmas.Option.{slice_get_within}
use Rattle.fs_semantics.specs.FileTree.{Path, Tree, Entry, Folder, File, Link, HasParents, HasText, is_dir, is_folder_entry, parent, path_cmp, path_eq}
use Rattle.fs_semantics.proofs.Trees.{path_eq_same}
use Rattle.fs_semantics.specs.Entries.{IsFreeAt, IsFolderAt, IsWith}
use Rattle.fs_interpreter.specs.Places.{Listed, IsTable, HasPath, HasContent, Keeps, place_in}
use Rattle.fs_interpreter.specs.States.{Cell, State, truth, number}
use Rattle.fs_interpreter.specs.Standing.{Tells, Stands}
use Rattle.fs_replay.specs.Told.{HasTree, HasNode, with_entry}
use Rattle.rh_base.proofs.Lists.{get_last}

-- what the lists tell of a place
abbrev pub cell_in : List Bool → List Bool → List Bool → List ℕ → ℕ → Cell
cell_in ps fs ls cs k = record { present = truth (λ b. b) (slice_get ps k); folder = truth (λ b. b) (slice_get fs k); link = truth (λ b. b) (slice_get ls k); content = number (λ n. n) (slice_get cs k) }

-- the lists tell what stands at the first n places
pub record AreTold (table : Listed) (t : Tree) (n : ℕ) (ps fs ls : List Bool) (cs : List ℕ) : Type 0 where
  pub presents : length ps ≡ n
  pub folders : length fs ≡ n
  pub links : length ls ≡ n
  pub contents : length cs ≡ n
  pub tells : (k : ℕ) (p : Path) → k < n → slice_get table.paths k ≡ Some p → Tells table.contents (cell_in ps fs ls cs k) (map.get t p)

-- an item of the first of two lists stands at its place in both together
pub get_before : {X : Type 0} (xs ys : List X) (k : ℕ) → k < length xs → slice_get (xs ++ ys) k ≡ slice_get xs k
get_before [] ys k h = absurd (omega arith)
get_before (x ∷ xs) ys zero h = refl
get_before (x ∷ xs) ys (suc k) h = get_before xs ys k (omega arith)

-- one item more makes a list one longer
longer : {X : Type 0} (xs : List X) (x : X) (n : ℕ) → length xs ≡ n → length (xs ++ x ∷ []) ≡ n + 1
longer [] x n h = let z : 0 ≡ n = h in ap (λ m. m + 1) z
longer (y ∷ xs) x n h = let more = longer xs x (length xs) refl in omega arith

-- it stands where the list ended before
last_at : {X : Type 0} (xs : List X) (x : X) (n : ℕ) → length xs ≡ n → slice_get (xs ++ x ∷ []) n ≡ Some x
last_at xs x n h = subst (λ k. slice_get (xs ++ x ∷ []) k ≡ Some x) h (get_last xs x)

-- what is below the next number is below a number, or is that number
pub same_or_below : (k n : ℕ) → k < n + 1 → (k < n) ⊎ (k ≡ n)
same_or_below k zero h = inr (omega arith)
same_or_below zero (suc n) h = inl (omega arith)
same_or_below (suc k) (suc n) h = elim (same_or_below k n (omega arith)) [
  | inl b ↦ inl (omega arith)
  | inr e ↦ inr (ap suc e)
]

-- with the cell of the next place added, the lists tell what stands at one place more
pub told_more : (table : Listed) (t : Tree) (n : ℕ) (ps fs ls : List Bool) (cs : List ℕ) (c : Cell) (p : Path) → AreTold table t n ps fs ls cs → slice_get table.paths n ≡ Some p → Tells table.contents c (map.get t p)
    → AreTold table t (n + 1) (ps ++ c.present ∷ []) (fs ++ c.folder ∷ []) (ls ++ c.link ∷ []) (cs ++ c.content ∷ [])
told_more table t n ps fs ls cs c p so_far at tells = record {
  presents = longer ps c.present n so_far.presents;
  folders = longer fs c.folder n so_far.folders;
  links = longer ls c.link n so_far.links;
  contents = longer cs c.content n so_far.contents;
  tells = λ k q h there. elim (same_or_below k n h) [
    | inl below ↦ subst (λ (x : Cell). Tells table.contents x (map.get t q))
        (λ i. record {
          present = truth (λ b. b) (sym (get_before ps (c.present ∷ []) k (subst (λ m. k < m) (sym so_far.presents) below)) i);
          folder = truth (λ b. b) (sym (get_before fs (c.folder ∷ []) k (subst (λ m. k < m) (sym so_far.folders) below)) i);
          link = truth (λ b. b) (sym (get_before ls (c.link ∷ []) k (subst (λ m. k < m) (sym so_far.links) below)) i);
          content = number (λ m. m) (sym (get_before cs (c.content ∷ []) k (subst (λ m. k < m) (sym so_far.contents) below)) i);
        })
        (so_far.tells k q below there)
    | inr here ↦
        let two : ◌≡◌ {A = Option Path} (Some p) (Some q) = sym at ∙ subst (λ m. slice_get table.paths m ≡ Some q) here there in
        let same : p ≡ q = cc in
        subst (λ m. Tells table.contents (cell_in (ps ++ c.present ∷ []) (fs ++ c.folder ∷ []) (ls ++ c.link ∷ []) (cs ++ c.content ∷ []) m) (map.get t q)) (sym here)
        (subst (λ (x : Cell). Tells table.contents x (map.get t q))
        (λ i. record {
          present = truth (λ b. b) (sym (last_at ps c.present n so_far.presents) i);
          folder = truth (λ b. b) (sym (last_at fs c.folder n so_far.folders) i);
          link = truth (λ b. b) (sym (last_at ls c.link n so_far.links) i);
          content = number (λ m. m) (sym (last_at cs c.content n so_far.contents) i);
        })
        (subst (λ q. Tells table.contents c (map.get t q)) same tells))
  ];
}

-- u has what t has at the first n places, and nothing else
pub record UpTo (paths : List Path) (n : ℕ) (u t : Tree) : Type 0 where
  pub below : (k : ℕ) (p : Path) → k < n → slice_get paths k ≡ Some p → map.get u p ≡ map.get t p
  pub above : (k : ℕ) (p : Path) → n ≤ k → slice_get paths k ≡ Some p → map.get u p ≡ None
  pub elsewhere : (p : Path) → ((k : ℕ) → slice_get paths k ≢ Some p) → map.get u p ≡ None

-- the empty tree has what a tree has at no place
pub nothing_yet : (paths : List Path) (t : Tree) → UpTo paths 0 map.empty t
nothing_yet paths t = record {
  below = λ k p h e. absurd (omega arith);
  above = λ k p h e. map.get-empty _ p;
  elsewhere = λ p h. map.get-empty _ p;
}

-- where nothing stands at the next place, the same tree has what there is at one place more
pub nothing_there : (table : Listed) (n : ℕ) (u t : Tree) (p : Path) → UpTo table.paths n u t → slice_get table.paths n ≡ Some p → map.get t p ≡ None → UpTo table.paths (n + 1) u t
nothing_there table n u t p so_far at none = record {
  below = λ k q h e. elim (same_or_below k n h) [
    | inl b ↦ so_far.below k q b e
    | inr here ↦
        let two : ◌≡◌ {A = Option Path} (Some p) (Some q) = sym at ∙ subst (λ m. slice_get table.paths m ≡ Some q) here e in
        let same : p ≡ q = cc in
        so_far.above k q (subst (λ m. n ≤ m) (sym here) (omega arith)) e ∙ sym none ∙ ap (map.get t) same
  ];
  above = λ k q h e. so_far.above k q (omega arith) e;
  elsewhere = so_far.elsewhere;
}

-- where an entry stands at the next place, the tree with that entry has what there is at one place more
pub one_there : (table : Listed) (n : ℕ) (u v t : Tree) (p : Path) (x : Entry) → IsTable table → UpTo table.paths n u t → slice_get table.paths n ≡ Some p → map.get t p ≡ Some x → IsWith u v p (Some x) → UpTo table.paths (n + 1) v t
one_there table n u v t p x is so_far at some leaves = record {
  below = λ k q h e. elim (same_or_below k n h) [
    | inl b ↦ leaves.elsewhere q (λ same. let k_is = is.once k n p (e ∙ ap Some same) at in absurd (omega arith)) ∙ so_far.below k q b e
    | inr here ↦
        let two : ◌≡◌ {A = Option Path} (Some p) (Some q) = sym at ∙ subst (λ m. slice_get table.paths m ≡ Some q) here e in
        let same : p ≡ q = cc in
        ap (map.get v) (sym same) ∙ leaves.here ∙ sym some ∙ ap (map.get t) same
  ];
  above = λ k q h e. leaves.elsewhere q (λ same. let k_is = is.once k n p (e ∙ ap Some same) at in absurd (omega arith)) ∙ so_far.above k q (omega arith) e;
  elsewhere = λ q none. leaves.elsewhere q (λ same. none n (at ∙ ap Some (sym same))) ∙ so_far.elsewhere q none;
}

-- where the entry at a place goes
pub is_free : (table : Listed) (n : ℕ) (u t : Tree) (p : Path) → IsTable table → UpTo table.paths n u t → slice_get table.paths n ≡ Some p → IsFreeAt u p
is_free table n u t p is so_far at = ((λ top. is.no_root n (at ∙ ap Some top)), so_far.above n p (omega arith) at)

-- an entry that is said to be a folder is one
folder_entry : (o : Option Entry) → is_folder_entry o ≡ true → o ≡ Some Folder
folder_entry None h = cc
folder_entry (Some Folder) h = refl
folder_entry (Some (File c)) h = cc
folder_entry (Some (Link c)) h = cc

-- a folder is the root, or stands as an entry
dir_word : (t : Tree) (q : Path) → IsTrue (is_dir t q) → (q ≡ []) ⊎ (map.get t q ≡ Some Folder)
dir_word t [] h = inl refl
dir_word t (s ∷ q) h = inr (folder_entry (map.get t (s ∷ q)) h)

-- the parent of a path where something stands is a folder in the tree made so far
pub is_below_folder : (table : Listed) (n : ℕ) (u t : Tree) (p : Path) (x : Entry) → IsTable table → HasParents t → UpTo table.paths n u t → slice_get table.paths n ≡ Some p → map.get t p ≡ Some x → IsFolderAt u (parent p)
is_below_folder table n u t p x is whole so_far at some = elim (is.parents n p at) [
  | inl top ↦ inl top
  | inr there ↦ elim (dir_word t (parent p) (whole.parents p (ap is_some some))) [
    | inl top ↦ inl top
    | inr folder ↦ inr (so_far.below there.0 (parent p) (is.before n there.0 p at there.1) there.1 ∙ folder)
  ]
]

-- once all places are done
pub all_there : ((paths : List Path) (p : Path) (i : ℕ) → place_in paths p ≡ Some i → slice_get paths i ≡ Some p)
    → ((paths : List Path) (p : Path) → place_in paths p ≡ None → (i : ℕ) → slice_get paths i ≢ Some p)
    → (table : Listed) (s : State) (u t : Tree) → Stands table s t → UpTo table.paths (length table.paths) u t → (p : Path) → map.get u p ≡ map.get t p
all_there place_there place_nowhere table s u t stands done p = elim (place_in table.paths p) as (λ o. place_in table.paths p ≡ o → map.get u p ≡ map.get t p) [
  | None ↦ λ e. done.elsewhere p (place_nowhere table.paths p e) ∙ sym (stands.nothing_else p (place_nowhere table.paths p e))
  | Some i ↦ λ e. let at = place_there table.paths p i e in done.below i p (slice_get_within table.paths i p at) at
] refl

-- what the cell of a place tells is added
pub added : ((contents : List (List ℕ)) (c : Cell) (x y : Option Entry) → Tells contents c x → Tells contents c y → x ≡ y)
    → (table : Listed) (n : ℕ) (u v t : Tree) (p : Path) (c : Cell) (o : Option Entry) → ((t : Tree) (p : Path) (x : Entry) → IsWith t (map.insert t p x) p (Some x)) → IsTable table → UpTo table.paths n u t
    → slice_get table.paths n ≡ Some p → Tells table.contents c (map.get t p) → Tells table.contents c o → v ≡ with_entry u p o → UpTo table.paths (n + 1) v t
added one_entry table n u v t p c None put is so_far at one two e = subst (λ w. UpTo table.paths (n + 1) w t) (sym e) (nothing_there table n u t p so_far at (one_entry table.contents c (map.get t p) None one two))
added one_entry table n u v t p c (Some x) put is so_far at one two e =
    one_there table n u v t p x is so_far at (one_entry table.contents c (map.get t p) (Some x) one two) (subst (λ w. IsWith u w p (Some x)) (sym e) (put u p x))

-- and so it is where the cell of the path tells an entry
pub above_entry : ((contents : List (List ℕ)) (c : Cell) (x y : Option Entry) → Tells contents c x → Tells contents c y → x ≡ y)
    → (table : Listed) (n : ℕ) (u t : Tree) (p : Path) (c : Cell) {X : Type 0} (f : X → Entry) (o : Option X) → IsTable table → HasParents t → UpTo table.paths n u t
    → slice_get table.paths n ≡ Some p → Tells table.contents c (map.get t p) → Tells table.contents c (option_map f o) → IfSome o (λ e. IsFolderAt u (parent p))
above_entry one_entry table n u t p c f None is whole so_far at one two = tt
above_entry one_entry table n u t p c f (Some x) is whole so_far at one two = is_below_folder table n u t p (f x) is whole so_far at (one_entry table.contents c (map.get t p) (Some (f x)) one two)

-- where no path of the table is, the tree has nothing
pub none_else : (table : Listed) (t : Tree) → map.get t [] ≡ None → HasTree table t → (p : Path) → ((i : ℕ) → slice_get table.paths i ≢ Some p) → map.get t p ≡ None
none_else table t root has p none = elim (map.get t p) as (λ o. map.get t p ≡ o → o ≡ None) [
  | None ↦ λ e. refl
  | Some x ↦ λ e. elim (has.paths p (ap is_some e)) [
    | inl top ↦ sym e ∙ ap (map.get t) top ∙ root
    | inr there ↦ absurd (none there.0 there.1)
  ]
] refl

-- ---- the entries of a tree

-- the table has the path, and the content or target, of each of these entries
abbrev pub HasEntries : Listed → List (Path × Entry) → Type 0
HasEntries table es = AllByRecursion (λ e. HasNode table e.0 e.1) es

-- the table has an entry that is found among them
found_has : (table : Listed) (es : List (Path × Entry)) (p : Path) (x : Entry) → HasEntries table es → find path_cmp p es ≡ Some x → HasNode table p x
found_has table [] p x all h = cc
found_has table (e ∷ es) p x all h = elim (path_eq p e.0) as (λ b. path_eq p e.0 ≡ b → cond b (Some e.1) (find path_cmp p es) ≡ Some x → HasNode table p x) [
  | true ↦ λ k l.
      let same : e.1 ≡ x = cc in
      subst (HasNode table p) same (subst (λ q. HasNode table q e.1) (sym (path_eq_same p e.0 k)) all.0)
  | false ↦ λ k l. found_has table es p x all.1 l
] refl h

-- a table that has the entries of a tree has the tree
pub has_tree : (table : Listed) (t : Tree) → HasEntries table (map.entries t) → HasTree table t
has_tree table t all = record {
  paths = λ p h. elim (map.get t p) as (λ o. map.get t p ≡ o → IsTrue (is_some o) → HasPath table p) [
    | None ↦ λ e k. cc
    | Some x ↦ λ e k. (found_has table (map.entries t) p x all (sym (get-entries t p) ∙ e)).path
  ] refl h;
  contents = λ p text h. elim (map.get t p) as (λ o. map.get t p ≡ o → HasText o text → HasContent table text) [
    | None ↦ λ e k. absurd k
    | Some x ↦ λ e k. (found_has table (map.entries t) p x all (sym (get-entries t p) ∙ e)).text text k
  ] refl h;
}

-- where a table has a tree, one that keeps it has it too
pub tree_later : (a b : Listed) (t : Tree) → Keeps a b → HasTree a t → HasTree b t
tree_later a b t k h = record { paths = λ p e. k.paths p (h.paths p e); contents = λ p text e. k.contents text (h.contents p text e) }

-- where a table has an entry, one that keeps it has it too
pub node_later : (a b : Listed) (p : Path) (x : Entry) → Keeps a b → HasNode a p x → HasNode b p x
node_later a b p x k h = record { path = k.paths p h.path; text = λ text e. k.contents text (h.text text e) }
