-- What cells tell is what holds in the tree that they stand for.
use Rattle.std.proofs.Common.{◌≡◌, ◌≢◌, ◌⊎◌, inl, inr, ℕ, zero, suc, ◌+◌, Bool, true, false, cond, List, [], ◌∷◌, Option, Some, None, refl, sym, ap, ◌∙◌, arith}
use Rattle.std.specs.Prelude.{not, ◌&&◌, ◌||◌, slice_get, is_some}
use Rattle.std.specs.List.{list_any}
use Rattle.std.specs.Ordering.{eq_by_cmp}
use Rattle.std.specs.FinMap as map
use Rattle.std.specs.FinMap.{contains_key-keys}
use Rattle.fs_semantics.specs.FileTree.{Path, Entry, Folder, File, Link as LinkTo, Tree, path_cmp, path_eq, parent, is_file_entry, is_link_entry, is_folder_entry, is_no_entry, is_file, is_link, is_dir, is_none, is_empty_dir}
use Rattle.fs_semantics.specs.Programs.{Test, True, False, Not, And, Or, IsFile, IsLink, IsDir, IsEmpty, IsNone, holds}
use Rattle.fs_semantics.proofs.Trees.{path_eq_same, path_eq_refl}
use Rattle.fs_semantics.proofs.ConstructLaws.{child_found}
use Rattle.fs_interpreter.specs.Places.{Listed, IsTable, HasPath, CoversTest, place_in, children_from, children_in}
use Rattle.fs_interpreter.specs.States.{Cell, State}
use Rattle.fs_interpreter.specs.Steps.{Cellwise, file_at, link_at, dir_at, none_at, any_present, empty_at, holds_in}
use Rattle.fs_interpreter.specs.Standing.{Tells, Stands}
use Rattle.fs_interpreter.proofs.SearchLaws.{place_there, place_found, place_nowhere}
use Rattle.std.proofs.lemmas.Bool.{or_right, or_left, or_cases}
use Rattle.fs_semantics.proofs.Keys.{same_bool}

-- ---- one cell

-- by its cell an entry is a folder exactly where it is one
pub cell_dir : (contents : List (List ℕ)) (c : Cell) (o : Option Entry) → Tells contents c o → (c.present && c.folder) ≡ is_folder_entry o
cell_dir contents c None h = ap (λ b. b && c.folder) h
cell_dir contents c (Some Folder) h = λ i. h.0 i && h.1 i
cell_dir contents c (Some (File x)) h = λ i. h.0 i && h.1 i
cell_dir contents c (Some (LinkTo x)) h = λ i. h.0 i && h.1 i

-- and a file exactly where it is one
pub cell_file : (contents : List (List ℕ)) (c : Cell) (o : Option Entry) → Tells contents c o → (c.present && (not c.folder && not c.link)) ≡ is_file_entry o
cell_file contents c None h = ap (λ b. b && (not c.folder && not c.link)) h
cell_file contents c (Some Folder) h = λ i. h.0 i && (not (h.1 i) && not c.link)
cell_file contents c (Some (File x)) h = λ i. h.0 i && (not (h.1 i) && not (h.2 i))
cell_file contents c (Some (LinkTo x)) h = λ i. h.0 i && (not (h.1 i) && not (h.2 i))

-- and a link exactly where it is one
pub cell_link : (contents : List (List ℕ)) (c : Cell) (o : Option Entry) → Tells contents c o → (c.present && (not c.folder && c.link)) ≡ is_link_entry o
cell_link contents c None h = ap (λ b. b && (not c.folder && c.link)) h
cell_link contents c (Some Folder) h = λ i. h.0 i && (not (h.1 i) && c.link)
cell_link contents c (Some (File x)) h = λ i. h.0 i && (not (h.1 i) && h.2 i)
cell_link contents c (Some (LinkTo x)) h = λ i. h.0 i && (not (h.1 i) && h.2 i)

-- and nothing exactly where nothing is there
pub cell_none : (contents : List (List ℕ)) (c : Cell) (o : Option Entry) → Tells contents c o → not c.present ≡ is_no_entry o
cell_none contents c None h = ap not h
cell_none contents c (Some Folder) h = ap not h.0
cell_none contents c (Some (File x)) h = ap not h.0
cell_none contents c (Some (LinkTo x)) h = ap not h.0

-- ---- one path

-- the path is the root, or stands in the table and its cell tells what is there
abbrev pub Seen : Listed → State → Tree → Path → Type 0
Seen table s t p = ((p ≡ []) × (place_in table.paths p ≡ None) × (map.get t p ≡ None))
    ⊎ ((i : ℕ) × (place_in table.paths p ≡ Some i) × Tells table.contents (s.cell i) (map.get t p) × (p ≢ []))

-- the root has no place in a table
pub root_nowhere : (table : Listed) → IsTable table → place_in table.paths [] ≡ None
root_nowhere table is = elim (place_in table.paths []) as (λ o. place_in table.paths [] ≡ o → o ≡ None) [
  | None ↦ λ e. refl
  | Some j ↦ λ e. absurd (is.no_root j (place_there table.paths [] j e))
] refl

-- each path that is the root or in the table is seen, where the cells stand for the tree
pub seen : (table : Listed) (s : State) (t : Tree) (p : Path) → IsTable table → Stands table s t → HasPath table p → Seen table s t p
seen table s t p is st (inl e) = inl (e, ap (place_in table.paths) e ∙ root_nowhere table is, ap (map.get t) e ∙ st.nothing_else [] is.no_root)
seen table s t p is st (inr h) = let found = place_found table.paths p h.0 h.1 in
    inr (found.0, found.1, st.tells found.0 p (place_there table.paths p found.0 found.1), λ z. is.no_root h.0 (h.1 ∙ ap Some z))

-- a path but the root is a folder where its entry is one
dir_below : (t : Tree) (p : Path) → p ≢ [] → is_dir t p ≡ is_folder_entry (map.get t p)
dir_below t [] h = absurd (h refl)
dir_below t (s ∷ p) h = refl

-- a path but the root is free where it has no entry
none_below : (t : Tree) (p : Path) → p ≢ [] → is_none t p ≡ is_no_entry (map.get t p)
none_below t [] h = absurd (h refl)
none_below t (s ∷ p) h = refl

-- by the cells a file is at a path exactly where one is in the tree
pub file_is : (table : Listed) (s : State) (t : Tree) (p : Path) → Seen table s t p → file_at (place_in table.paths p) s.cell ≡ is_file t p
file_is table s t p (inl h) = ap (λ o. file_at o s.cell) h.1 ∙ sym (ap is_file_entry h.2)
file_is table s t p (inr h) = ap (λ o. file_at o s.cell) h.1 ∙ cell_file table.contents (s.cell h.0) (map.get t p) h.2

-- and a link exactly where one is in the tree
pub link_is : (table : Listed) (s : State) (t : Tree) (p : Path) → Seen table s t p → link_at (place_in table.paths p) s.cell ≡ is_link t p
link_is table s t p (inl h) = ap (λ o. link_at o s.cell) h.1 ∙ sym (ap is_link_entry h.2)
link_is table s t p (inr h) = ap (λ o. link_at o s.cell) h.1 ∙ cell_link table.contents (s.cell h.0) (map.get t p) h.2

-- and a folder exactly where one is in the tree
pub dir_is : (table : Listed) (s : State) (t : Tree) (p : Path) → Seen table s t p → dir_at (place_in table.paths p) s.cell ≡ is_dir t p
dir_is table s t p (inl h) = ap (λ o. dir_at o s.cell) h.1 ∙ sym (ap (is_dir t) h.0)
dir_is table s t p (inr h) = ap (λ o. dir_at o s.cell) h.1 ∙ cell_dir table.contents (s.cell h.0) (map.get t p) h.2 ∙ sym (dir_below t p h.3)

-- and nothing exactly where nothing is in the tree
pub none_is : (table : Listed) (s : State) (t : Tree) (p : Path) → Seen table s t p → none_at (place_in table.paths p) s.cell ≡ is_none t p
none_is table s t p (inl h) = ap (λ o. none_at o s.cell) h.1 ∙ sym (ap (is_none t) h.0)
none_is table s t p (inr h) = ap (λ o. none_at o s.cell) h.1 ∙ cell_none table.contents (s.cell h.0) (map.get t p) h.2 ∙ sym (none_below t p h.3)

-- ---- children

-- a child that is present
abbrev Child : List Path → Path → (ℕ → Bool) → Type 0
Child paths p there = (i : ℕ) × (q : Path) × (slice_get paths i ≡ Some q) × (parent q ≡ p) × (there i ≡ true)

-- a present child among the rest of the paths is one among all, one place further
further : (k : ℕ) (q : Path) (paths : List Path) (p : Path) (cell : Cellwise) → Child paths p (λ i. (cell (suc k + i)).present) → Child (q ∷ paths) p (λ i. (cell (k + i)).present)
further k q paths p cell c = let same : suc k + c.0 ≡ k + suc c.0 = omega arith in (suc c.0, c.1, c.2, c.3, ap (λ i. (cell i).present) (sym same) ∙ c.4)

-- where one of the children's places is present, there is a child that is
child_from : (k : ℕ) (paths : List Path) (p : Path) (cell : Cellwise) → any_present (children_from k paths p) cell ≡ true → Child paths p (λ i. (cell (k + i)).present)
child_from k [] p cell h = cc
child_from k (q ∷ paths) p cell h = elim (path_eq (parent q) p) as (λ b. path_eq (parent q) p ≡ b → any_present (cond b (k ∷ children_from (suc k) paths p) (children_from (suc k) paths p)) cell ≡ true → Child (q ∷ paths) p (λ i. (cell (k + i)).present)) [
  | true ↦ λ e l. elim (or_cases (cell k).present (any_present (children_from (suc k) paths p) cell) l) [
    | inl here ↦ (let same : k + 0 ≡ k = omega arith in (0, q, refl, path_eq_same (parent q) p e, ap (λ i. (cell i).present) same ∙ here))
    | inr more ↦ further k q paths p cell (child_from (suc k) paths p cell more)
  ]
  | false ↦ λ e l. further k q paths p cell (child_from (suc k) paths p cell l)
] refl h

-- and where there is a present child, one of the places is present
present_from : (k : ℕ) (paths : List Path) (p q : Path) (i : ℕ) (cell : Cellwise) → slice_get paths i ≡ Some q → parent q ≡ p → (cell (k + i)).present ≡ true → any_present (children_from k paths p) cell ≡ true
present_from k [] p q i cell h e there = cc
present_from k (r ∷ paths) p q zero cell h e there =
    let same : r ≡ q = cc in
    let at : k + 0 ≡ k = omega arith in
    ap (λ b. any_present (cond b (k ∷ children_from (suc k) paths p) (children_from (suc k) paths p)) cell) (ap (λ x. path_eq (parent x) p) same ∙ ap (λ x. path_eq x p) e ∙ path_eq_refl p)
    ∙ or_left (cell k).present _ (ap (λ i. (cell i).present) (sym at) ∙ there)
present_from k (r ∷ paths) p q (suc i) cell h e there =
    let at : k + suc i ≡ suc k + i = omega arith in
    let more = present_from (suc k) paths p q i cell h e (ap (λ i. (cell i).present) (sym at) ∙ there) in
    elim (path_eq (parent r) p) as (λ b. any_present (cond b (k ∷ children_from (suc k) paths p) (children_from (suc k) paths p)) cell ≡ true) [
      | true ↦ or_right (cell k).present _ more
      | false ↦ more
    ]

-- a cell is present exactly where it tells of an entry
some_entry : (contents : List (List ℕ)) (c : Cell) (o : Option Entry) → Tells contents c o → c.present ≡ is_some o
some_entry contents c None h = h
some_entry contents c (Some Folder) h = h.0
some_entry contents c (Some (File x)) h = h.0
some_entry contents c (Some (LinkTo x)) h = h.0

-- where some key has this path as its parent, there is such a key
any_key : (p : Path) (ks : List Path) → list_any (λ q. path_eq (parent q) p) ks ≡ true → (q : Path) × (parent q ≡ p) × (list_any (eq_by_cmp path_cmp q) ks ≡ true)
any_key p [] h = cc
any_key p (k ∷ ks) h = elim (or_cases (path_eq (parent k) p) (list_any (λ q. path_eq (parent q) p) ks) h) [
  | inl here ↦ (k, path_eq_same (parent k) p here, or_left _ _ (path_eq_refl k))
  | inr more ↦ (let found = any_key p ks more in (found.0, found.1, or_right (eq_by_cmp path_cmp found.0 k) _ found.2))
]

-- each path with an entry is in the table
listed : (table : Listed) (s : State) (t : Tree) (q : Path) → Stands table s t → is_some (map.get t q) ≡ true → (i : ℕ) × (slice_get table.paths i ≡ Some q)
listed table s t q st h = elim (place_in table.paths q) as (λ o. place_in table.paths q ≡ o → (i : ℕ) × (slice_get table.paths i ≡ Some q)) [
  | None ↦ λ e. (let none : ◌≡◌ true false = sym h ∙ ap is_some (st.nothing_else q (place_nowhere table.paths q e)) in cc)
  | Some i ↦ λ e. (i, place_there table.paths q i e)
] refl

-- by the cells a path has children exactly where it has some in the tree
pub any_is : (table : Listed) (s : State) (t : Tree) (p : Path) → Stands table s t → any_present (children_in table.paths p) s.cell ≡ list_any (λ q. path_eq (parent q) p) (map.keys t)
any_is table s t p st = same_bool _ _
    (λ h. let c = child_from 0 table.paths p s.cell h in
    let at : 0 + c.0 ≡ c.0 = omega arith in
    let there = sym (some_entry table.contents (s.cell c.0) (map.get t c.1) (st.tells c.0 c.1 c.2)) ∙ ap (λ i. (s.cell i).present) (sym at) ∙ c.4 in
    child_found p c.1 (map.keys t) c.3 (sym (contains_key-keys t c.1) ∙ there))
    (λ h. let k = any_key p (map.keys t) h in
    let there = contains_key-keys t k.0 ∙ k.2 in
    let i = listed table s t k.0 st there in
    let at : 0 + i.0 ≡ i.0 = omega arith in
    present_from 0 table.paths p k.0 i.0 s.cell i.1 k.1 (ap (λ i. (s.cell i).present) at ∙ some_entry table.contents (s.cell i.0) (map.get t k.0) (st.tells i.0 k.0 i.1) ∙ there))

-- by the cells a folder is empty exactly where it is in the tree
pub empty_is : (table : Listed) (s : State) (t : Tree) (p : Path) → Stands table s t → Seen table s t p → empty_at (place_in table.paths p) (children_in table.paths p) s.cell ≡ is_empty_dir t p
empty_is table s t p st h = let dir = dir_is table s t p h in let any = any_is table s t p st in (λ i. dir i && not (any i))

-- a test holds of what the cells tell where it holds in the tree
pub told_is : (table : Listed) (s : State) (t : Tree) (a : Test) → IsTable table → Stands table s t → CoversTest table a → holds_in table a s.cell ≡ holds a t
told_is table s t True is st c = refl
told_is table s t False is st c = refl
told_is table s t (Not a) is st c = ap not (told_is table s t a is st c)
told_is table s t (And a b) is st c = let one = told_is table s t a is st c.0 in let two = told_is table s t b is st c.1 in (λ i. one i && two i)
told_is table s t (Or a b) is st c = let one = told_is table s t a is st c.0 in let two = told_is table s t b is st c.1 in (λ i. one i || two i)
told_is table s t (IsFile p) is st c = file_is table s t p (seen table s t p is st c)
told_is table s t (IsLink p) is st c = link_is table s t p (seen table s t p is st c)
told_is table s t (IsDir p) is st c = dir_is table s t p (seen table s t p is st c)
told_is table s t (IsEmpty p) is st c = empty_is table s t p st (seen table s t p is st c)
told_is table s t (IsNone p) is st c = none_is table s t p (seen table s t p is st c)
