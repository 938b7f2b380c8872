-- What each construct changes and what it leaves, and that a file tree stays one.
use Rattle.std.proofs.Common.{◌≡◌, ◌≢◌, ◌⊎◌, inl, inr, ℕ, Bool, true, false, not, cond, ◌&&◌, ◌||◌, List, [], ◌∷◌, Option, Some, None, refl, sym, ap, subst, ◌∙◌}
use Rattle.std.specs.List.{AllByRecursion, list_any}
use Rattle.std.specs.Ordering.{eq_by_cmp}
use Rattle.std.specs.FinMap as map
use Rattle.std.specs.FinMap.{contains_key-keys}
use Rattle.std.specs.Prelude.{is_some, IsTrue}
use Rattle.fs_semantics.specs.FileTree.{Path, IsSegment, IsBytes, HasText, Entry, Folder, File, Link as LinkTo, Tree, parent, path_cmp, path_eq, is_root, is_file, is_link, is_dir, is_none, is_empty_dir, is_file_entry, is_link_entry, is_folder_entry, is_no_entry, IsTree, HasParents}
use Rattle.fs_semantics.specs.Programs.{Program, Programs, Id, Err, Mkdir, Creat, Link, Rm, Cp, Steps, If, none, next, Outcome, and_then, holds, made, removed, copied, run, run_all}
use Rattle.fs_semantics.specs.Changes.{Changes, ChangesInSteps, IsProper, AreProperSteps}
use Rattle.fs_semantics.proofs.Trees.{path_eq_refl, path_eq_same, at_inserted, at_other, at_removed, at_kept, is_dir_other, parent_differs}
use Rattle.std.proofs.lemmas.Bool.{and_parts, or_right, or_left, or_cases}

-- a step that ends in a tree had its test true, and leaves that tree
pub guarded : (b : Bool) (u v : Tree) → cond b (Some u) None ≡ Some v → (b ≡ true) × (u ≡ v)
guarded true u v h = (refl, cc)
guarded false u v h = (cc, cc)

-- ---- a new entry

-- a new entry was made: its place was free, its parent is a folder, and the tree has it now
pub record Made (p : Path) (x : Entry) (t u : Tree) : Type 0 where
  pub free : is_none t p ≡ true
  pub above : is_dir t (parent p) ≡ true
  pub is : map.insert t p x ≡ u

-- where making an entry ends in a tree, it was made
pub made_is : (p : Path) (x : Entry) (t u : Tree) → made p x t ≡ Some u → Made p x t u
made_is p x t u h =
    let done = guarded (is_none t p && is_dir t (parent p)) (map.insert t p x) u h in
    let two = and_parts (is_none t p) (is_dir t (parent p)) done.0 in
    record { free = two.0; above = two.1; is = done.1 }

-- a copy makes a file
pub copied_is : (r : Option Entry) (q : Path) (t u : Tree) → copied r q t ≡ Some u → (content : List ℕ) × (r ≡ Some (File content)) × (made q (File content) t ≡ Some u)
copied_is None q t u h = cc
copied_is (Some Folder) q t u h = cc
copied_is (Some (File content)) q t u h = (content, refl, h)
copied_is (Some (LinkTo target)) q t u h = cc

-- making an entry keeps all others
made_keeps : (p q : Path) (x : Entry) (t u : Tree) → (q ≡ p → ⊥) → made p x t ≡ Some u → map.get u q ≡ map.get t q
made_keeps p q x t u other h = let m = made_is p x t u h in ap (λ v. map.get v q) (sym m.is) ∙ at_other t p q x other

-- where removing an entry ends in a tree, it could go, and is gone
pub removed_is : (p : Path) (t u : Tree) → removed p t ≡ Some u → ((is_file t p || is_link t p || (not (is_root p) && is_empty_dir t p)) ≡ true) × (map.remove t p ≡ u)
removed_is p t u h = guarded (is_file t p || is_link t p || (not (is_root p) && is_empty_dir t p)) (map.remove t p) u h

-- two steps that end in a tree both do
pub split_then : (r : Outcome) (f : Tree → Outcome) (u : Tree) → and_then r f ≡ Some u → (t : Tree) × (r ≡ Some t) × (f t ≡ Some u)
split_then None f u h = cc
split_then (Some t) f u h = (t, refl, h)

-- ---- what isn't changed stays

mutual
  -- a program keeps the entries that it doesn't change
  pub kept : (e : Program) (q : Path) (t u : Tree) → (Changes e q → ⊥) → run e t ≡ Some u → map.get u q ≡ map.get t q
  kept Id q t u other h = let same : t ≡ u = cc in ap (λ v. map.get v q) (sym same)
  kept Err q t u other h = cc
  kept (Mkdir p) q t u other h = made_keeps p q Folder t u other h
  kept (Creat p content) q t u other h = made_keeps p q (File content) t u other h
  kept (Link p target) q t u other h = made_keeps p q (LinkTo target) t u other h
  kept (Rm p) q t u other h = ap (λ v. map.get v q) (sym (removed_is p t u h).1) ∙ at_kept t p q other
  kept (Cp from p) q t u other h = let c = copied_is (map.get t from) p t u h in made_keeps p q (File c.0) t u other c.2
  kept (Steps es) q t u other h = kept_in_steps es q t u other h
  kept (If a e f) q t u other h = elim (holds a t) as (λ b. cond b (run e t) (run f t) ≡ Some u → map.get u q ≡ map.get t q) [
    | true ↦ λ k. kept e q t u (λ c. other (inl c)) k
    | false ↦ λ k. kept f q t u (λ c. other (inr c)) k
  ] h

  -- and so do steps
  kept_in_steps : (es : Programs) (q : Path) (t u : Tree) → (ChangesInSteps es q → ⊥) → run_all es t ≡ Some u → map.get u q ≡ map.get t q
  kept_in_steps none q t u other h = let same : t ≡ u = cc in ap (λ v. map.get v q) (sym same)
  kept_in_steps (next e es) q t u other h =
      let first = split_then (run e t) (run_all es) u h in
      kept_in_steps es q first.0 u (λ c. other (inr c)) first.2 ∙ kept e q t first.0 (λ c. other (inl c)) first.1

-- ---- a file tree stays one

-- what isn't there is no folder
pub none_no_folder : (r : Option Entry) → is_no_entry r ≡ true → is_folder_entry r ≡ true → ⊥
none_no_folder None h k = cc
none_no_folder (Some e) h k = cc

-- a free place is no folder
pub free_no_folder : (t : Tree) (p : Path) → is_none t p ≡ true → is_dir t p ≡ true → ⊥
free_no_folder t [] h k = cc
free_no_folder t (s ∷ p) h k = none_no_folder (map.get t (s ∷ p)) h k

-- a free place isn't the root
free_no_root : (t : Tree) (p : Path) → is_none t p ≡ true → p ≢ []
free_no_root t p h e = let no : is_none t [] ≡ true = subst (λ r. is_none t r ≡ true) e h in cc

-- no path but the root is its own parent
pub parent_other : (p : Path) → p ≢ [] → parent p ≢ p
parent_other [] h = absurd (h refl)
parent_other (s ∷ p) h = parent_differs s p

-- a fact of every path is shown at p and at the others
pub at_or_other : (P : Path → Type 0) (p q : Path) → P p → (q ≢ p → P q) → P q
at_or_other P p q here there = elim (path_eq q p) as (λ b. path_eq q p ≡ b → P q) [
  | true ↦ λ e. subst P (sym (path_eq_same q p e)) here
  | false ↦ λ e. there (λ same. let no : path_eq q p ≡ true = ap (λ r. path_eq r p) same ∙ path_eq_refl p in cc)
] refl

-- where an entry stayed, what is there now was there before
still_there : (t u : Tree) (q : Path) → map.get u q ≡ map.get t q → IsTrue (map.contains_key u q) → IsTrue (map.contains_key t q)
still_there t u q e h = subst (λ r. IsTrue (is_some r)) e h

-- contents and targets of the entry are of bytes
abbrev pub HasBytes : Option Entry → Type 0
HasBytes r = (text : List ℕ) → HasText r text → IsBytes text

-- a new entry in a free place below a folder keeps the rule on parents
insert_keeps_parents : (t : Tree) (p : Path) (x : Entry) → HasParents t → is_none t p ≡ true → is_dir t (parent p) ≡ true → HasParents (map.insert t p x)
insert_keeps_parents t p x has free above =
    let root = free_no_root t p free in
    record {
      no_root = at_other t p [] x (λ e. root (sym e)) ∙ has.no_root;
      parents = λ q h. at_or_other (λ r. is_dir (map.insert t p x) (parent r) ≡ true) p q
          (is_dir_other t (map.insert t p x) (parent p) (at_other t p (parent p) x (parent_other p root)) ∙ above)
          (λ other.
          let there : is_dir t (parent q) ≡ true = has.parents q (still_there t (map.insert t p x) q (at_other t p q x other) h) in
          is_dir_other t (map.insert t p x) (parent q) (at_other t p (parent q) x (λ e. free_no_folder t p free (subst (λ r. is_dir t r ≡ true) e there))) ∙ there);
    }

-- a file tree keeps the rule on parents
pub parents_of : (t : Tree) → IsTree t → HasParents t
parents_of t tree = record { no_root = tree.no_root; parents = tree.parents }

-- a proper new entry in a free place below a folder leaves a file tree one
pub insert_keeps_tree : (t : Tree) (p : Path) (x : Entry) → IsTree t → AllByRecursion IsSegment p → HasBytes (Some x) → is_none t p ≡ true → is_dir t (parent p) ≡ true → IsTree (map.insert t p x)
insert_keeps_tree t p x tree proper bytes free above =
    let has = insert_keeps_parents t p x (parents_of t tree) free above in
    record {
      no_root = has.no_root;
      paths = λ q h. at_or_other (λ r. AllByRecursion IsSegment r) p q proper (λ other. tree.paths q (still_there t (map.insert t p x) q (at_other t p q x other) h));
      parents = has.parents;
      texts = λ q. at_or_other (λ r. HasBytes (map.get (map.insert t p x) r)) p q (subst HasBytes (sym (at_inserted t p x)) bytes) (λ other. subst HasBytes (sym (at_other t p q x other)) (tree.texts q));
    }

-- making an entry keeps the rule on parents
made_keeps_parents : (t u : Tree) (p : Path) (x : Entry) → HasParents t → made p x t ≡ Some u → HasParents u
made_keeps_parents t u p x has h = let m = made_is p x t u h in subst HasParents m.is (insert_keeps_parents t p x has m.free m.above)

-- making a proper entry leaves a file tree one
made_keeps_tree : (t u : Tree) (p : Path) (x : Entry) → IsTree t → AllByRecursion IsSegment p → HasBytes (Some x) → made p x t ≡ Some u → IsTree u
made_keeps_tree t u p x tree proper bytes h = let m = made_is p x t u h in subst IsTree m.is (insert_keeps_tree t p x tree proper bytes m.free m.above)

-- a child of p is found among the entries
pub child_found : (p q : Path) (ks : List Path) → parent q ≡ p → list_any (eq_by_cmp path_cmp q) ks ≡ true → list_any (λ r. path_eq (parent r) p) ks ≡ true
child_found p q [] e h = cc
child_found p q (k ∷ ks) e h = elim (or_cases (eq_by_cmp path_cmp q k) (list_any (eq_by_cmp path_cmp q) ks) h) [
  | inl here ↦
      let same : q ≡ k = path_eq_same q k here in
      or_left _ _ (ap (λ r. path_eq (parent r) p) (sym same) ∙ ap (λ r. path_eq r p) e ∙ path_eq_refl p)
  | inr there ↦ or_right (path_eq (parent k) p) _ (child_found p q ks e there)
]

-- nothing is both true and false
pub not_false : (b : Bool) → not b ≡ true → b ≡ true → ⊥
not_false true h k = cc
not_false false h k = cc

-- an empty folder has no child
empty_no_child : (t : Tree) (p q : Path) → is_empty_dir t p ≡ true → IsTrue (map.contains_key t q) → parent q ≢ p
empty_no_child t p q empty h e =
    let two = and_parts (is_dir t p) (not (list_any (λ r. path_eq (parent r) p) (map.keys t))) empty in
    not_false _ two.1 (child_found p q (map.keys t) e (sym (contains_key-keys t q) ∙ h))

-- a folder is neither a file nor a link
pub folder_only : (r : Option Entry) → is_folder_entry r ≡ true → (is_file_entry r ≡ false) × (is_link_entry r ≡ false)
folder_only None h = cc
folder_only (Some Folder) h = (refl, refl)
folder_only (Some (File content)) h = cc
folder_only (Some (LinkTo target)) h = cc

-- of a disjunction of three that is true the last is true, where the others are false
only_last : (a b c : Bool) → (a || b || c) ≡ true → a ≡ false → b ≡ false → c ≡ true
only_last a b c h e d = sym (ap (λ x. x || b || c) e ∙ ap (λ y. false || y || c) d) ∙ h

-- what may be removed isn't the root
removed_no_root : (t : Tree) (p : Path) → HasParents t → (is_file t p || is_link t p || (not (is_root p) && is_empty_dir t p)) ≡ true → p ≢ []
removed_no_root t p tree h e =
    let root : (is_file t [] || is_link t [] || false) ≡ true = subst (λ r. (is_file t r || is_link t r || (not (is_root r) && is_empty_dir t r)) ≡ true) e h in
    let none : is_file_entry (map.get t []) ≡ false = ap is_file_entry tree.no_root in
    let no_link : is_link_entry (map.get t []) ≡ false = ap is_link_entry tree.no_root in
    let no : ◌≡◌ false true = only_last _ _ false root none no_link in cc

-- where it is a folder, it has no children
removed_childless : (t : Tree) (p q : Path) → p ≢ [] → (is_file t p || is_link t p || (not (is_root p) && is_empty_dir t p)) ≡ true
    → is_dir t p ≡ true → IsTrue (map.contains_key t q) → parent q ≢ p
removed_childless t [] q root h dir there = absurd (root refl)
removed_childless t (s ∷ p) q root h dir there =
    let kind = folder_only (map.get t (s ∷ p)) dir in
    empty_no_child t (s ∷ p) q (only_last (is_file t (s ∷ p)) (is_link t (s ∷ p)) (is_empty_dir t (s ∷ p)) h kind.0 kind.1) there

-- what is there after an entry was removed is another one
gone : (t : Tree) (p q : Path) → IsTrue (map.contains_key (map.remove t p) q) → q ≢ p
gone t p q h e =
    let none : is_some (map.get (map.remove t p) q) ≡ false = ap (λ r. is_some (map.get (map.remove t p) r)) e ∙ ap is_some (at_removed t p) in
    cc

-- to remove a file, a link or an empty folder keeps the rule on parents
remove_keeps_parents : (t : Tree) (p : Path) → HasParents t → (is_file t p || is_link t p || (not (is_root p) && is_empty_dir t p)) ≡ true → HasParents (map.remove t p)
remove_keeps_parents t p has can =
    let root = removed_no_root t p has can in
    record {
      no_root = at_kept t p [] (λ e. root (sym e)) ∙ has.no_root;
      parents = λ q h.
          let there = still_there t (map.remove t p) q (at_kept t p q (gone t p q h)) h in
          let dir : is_dir t (parent q) ≡ true = has.parents q there in
          is_dir_other t (map.remove t p) (parent q)
          (at_kept t p (parent q) (λ e. removed_childless t p q root can (subst (λ r. is_dir t r ≡ true) e dir) there e)) ∙ dir;
    }

-- to remove a file, a link or an empty folder leaves a file tree one
remove_keeps_tree : (t : Tree) (p : Path) → IsTree t → (is_file t p || is_link t p || (not (is_root p) && is_empty_dir t p)) ≡ true → IsTree (map.remove t p)
remove_keeps_tree t p tree can =
    let has = remove_keeps_parents t p (parents_of t tree) can in
    record {
      no_root = has.no_root;
      paths = λ q h. tree.paths q (still_there t (map.remove t p) q (at_kept t p q (gone t p q h)) h);
      parents = has.parents;
      texts = λ q. at_or_other (λ r. HasBytes (map.get (map.remove t p) r)) p q (λ text h. absurd (subst (λ r. HasText r text) (at_removed t p) h)) (λ other. subst HasBytes (sym (at_kept t p q other)) (tree.texts q));
    }

mutual
  -- a program keeps the rule on parents
  pub keeps_parents : (e : Program) (t u : Tree) → HasParents t → run e t ≡ Some u → HasParents u
  keeps_parents Id t u has h = let same : t ≡ u = cc in subst HasParents same has
  keeps_parents Err t u has h = cc
  keeps_parents (Mkdir p) t u has h = made_keeps_parents t u p Folder has h
  keeps_parents (Creat p content) t u has h = made_keeps_parents t u p (File content) has h
  keeps_parents (Link p target) t u has h = made_keeps_parents t u p (LinkTo target) has h
  keeps_parents (Rm p) t u has h = let r = removed_is p t u h in subst HasParents r.1 (remove_keeps_parents t p has r.0)
  keeps_parents (Cp from p) t u has h = let c = copied_is (map.get t from) p t u h in made_keeps_parents t u p (File c.0) has c.2
  keeps_parents (Steps es) t u has h = steps_keep_parents es t u has h
  keeps_parents (If a e f) t u has h = elim (holds a t) as (λ b. cond b (run e t) (run f t) ≡ Some u → HasParents u) [
    | true ↦ λ k. keeps_parents e t u has k
    | false ↦ λ k. keeps_parents f t u has k
  ] h

  -- and so do steps
  steps_keep_parents : (es : Programs) (t u : Tree) → HasParents t → run_all es t ≡ Some u → HasParents u
  steps_keep_parents none t u has h = let same : t ≡ u = cc in subst HasParents same has
  steps_keep_parents (next e es) t u has h =
      let first = split_then (run e t) (run_all es) u h in
      steps_keep_parents es first.0 u (keeps_parents e t first.0 has first.1) first.2

mutual
  -- a proper program leaves a file tree one
  pub keeps_tree : (e : Program) (t u : Tree) → IsProper e → IsTree t → run e t ≡ Some u → IsTree u
  keeps_tree Id t u proper tree h = let same : t ≡ u = cc in subst IsTree same tree
  keeps_tree Err t u proper tree h = cc
  keeps_tree (Mkdir p) t u proper tree h = made_keeps_tree t u p Folder tree proper (λ text k. absurd k) h
  keeps_tree (Creat p content) t u proper tree h = made_keeps_tree t u p (File content) tree proper.0 (λ text k. subst IsBytes (sym k) proper.1) h
  keeps_tree (Link p target) t u proper tree h = made_keeps_tree t u p (LinkTo target) tree proper.0 (λ text k. subst IsBytes (sym k) proper.1) h
  keeps_tree (Rm p) t u proper tree h = let r = removed_is p t u h in subst IsTree r.1 (remove_keeps_tree t p tree r.0)
  keeps_tree (Cp from p) t u proper tree h = let c = copied_is (map.get t from) p t u h in made_keeps_tree t u p (File c.0) tree proper (λ text k. tree.texts from text (subst (λ r. HasText r text) (sym c.1) k)) c.2
  keeps_tree (Steps es) t u proper tree h = steps_keep_tree es t u proper tree h
  keeps_tree (If a e f) t u proper tree h = elim (holds a t) as (λ b. cond b (run e t) (run f t) ≡ Some u → IsTree u) [
    | true ↦ λ k. keeps_tree e t u proper.0 tree k
    | false ↦ λ k. keeps_tree f t u proper.1 tree k
  ] h

  -- and so do proper steps
  steps_keep_tree : (es : Programs) (t u : Tree) → AreProperSteps es → IsTree t → run_all es t ≡ Some u → IsTree u
  steps_keep_tree none t u proper tree h = let same : t ≡ u = cc in subst IsTree same tree
  steps_keep_tree (next e es) t u proper tree h =
      let first = split_then (run e t) (run_all es) u h in
      steps_keep_tree es first.0 u proper.1 (keeps_tree e t first.0 proper.0 tree first.1) first.2
