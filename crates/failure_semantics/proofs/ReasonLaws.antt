-- Each construct that gives Error has one reason.
use Rattle.std.proofs.Common.{◌≡◌, ◌⊎◌, inl, inr, ℕ, Bool, true, false, not, cond, ◌&&◌, ◌||◌, List, [], ◌∷◌, Option, Some, None, refl, sym, ap, subst, ◌∙◌}
use Rattle.std.specs.List.{list_any}
use Rattle.std.specs.FinMap as map
use Rattle.fs_semantics.specs.FileTree.{Path, Entry, Folder, File, Link as LinkTo, Tree, parent, path_eq, is_root, is_file, is_link, is_dir, is_none, is_empty_dir, is_no_entry, is_file_entry, is_link_entry}
use Rattle.fs_semantics.specs.Entries.{IsFileAt, IsFolderAt}
use Rattle.fs_semantics.specs.Programs.{made, removed, copied}
use Rattle.fs_semantics.proofs.Words.{file_at, folder_at, free_at, empty_at}
use Rattle.fs_semantics.proofs.Keys.{key_from, key_passes}
use Rattle.fs_semantics.proofs.Trees.{path_eq_same, path_eq_refl}
use Rattle.failure_semantics.specs.Told.{no_place, not_gone, no_copy}
use Rattle.failure_semantics.specs.Failures.{Reason, Exists, NoFolder, NoFile, NothingThere, NotEmpty, TheRoot, Needs, Always, IsTakenAt, HasChild, HasNoPlace, StaysThere, HasNoCopy}
use Rattle.std.proofs.lemmas.Bool.{false_from_ne_true, cases_Bool}

-- nothing is both true and false
off : (b : Bool) → b ≡ false → b ≡ true → ⊥
off true h k = cc
off false h k = cc

-- ---- a place

-- where there isn't no entry, there is one
some_entry : (r : Option Entry) → is_no_entry r ≡ false → (x : Entry) × (r ≡ Some x)
some_entry None h = cc
some_entry (Some x) h = (x, refl)

-- a path that isn't free is taken
taken : (t : Tree) (p : Path) → is_none t p ≡ false → IsTakenAt t p
taken t [] h = inl refl
taken t (s ∷ p) h = inr (some_entry (map.get t (s ∷ p)) h)

-- and one that is taken isn't free
not_none : (t : Tree) (p : Path) → IsTakenAt t p → is_none t p ≡ false
not_none t [] h = refl
not_none t (s ∷ p) h = elim h [ inl e ↦ cc | inr x ↦ ap is_no_entry x.1 ]

-- where no entry can be made, the reason that is told holds
pub place_lacks : (t : Tree) (p : Path) (x : Entry) → made p x t ≡ None → HasNoPlace p (no_place t p) t
place_lacks t p x h = elim (cases_Bool (is_none t p)) [
  | inl free ↦ subst (λ b. HasNoPlace p (cond b NoFolder Exists) t) (sym free)
      ((free_at t p).0 free, (λ above. no_folder (is_none t p) (is_dir t (parent p)) (map.insert t p x) h free ((folder_at t (parent p)).1 above)))
  | inr there ↦ subst (λ b. HasNoPlace p (cond b NoFolder Exists) t) (sym there) (taken t p there)
]
  where
    no_folder : (a b : Bool) (u : Tree) → cond (a && b) (Some u) None ≡ None → a ≡ true → b ≡ true → ⊥
    no_folder true true u h e k = cc
    no_folder true false u h e k = cc
    no_folder false b u h e k = cc

-- and each reason that holds is that one
pub place_reason : (t : Tree) (p : Path) (r : Reason) → HasNoPlace p r t → r ≡ no_place t p
place_reason t p Exists h = sym (ap (λ b. cond b NoFolder Exists) (not_none t p h))
place_reason t p NoFolder h = sym (ap (λ b. cond b NoFolder Exists) ((free_at t p).1 h.0))
place_reason t p NoFile h = absurd h
place_reason t p NothingThere h = absurd h
place_reason t p NotEmpty h = absurd h
place_reason t p TheRoot h = absurd h
place_reason t p (Needs a) h = absurd h
place_reason t p Always h = absurd h

-- ---- a removal

-- where some key has the path as its parent, it has a child
has_child : (t : Tree) (p : Path) → list_any (λ q. path_eq (parent q) p) (map.keys t) ≡ true → HasChild t p
has_child t p h = let k = key_from (λ q. path_eq (parent q) p) t h in (k.0, k.1, path_eq_same (parent k.0) p k.2)

-- and where it has a child, some key has it as its parent
child_passes : (t : Tree) (p : Path) → HasChild t p → list_any (λ q. path_eq (parent q) p) (map.keys t) ≡ true
child_passes t p h = key_passes (λ q. path_eq (parent q) p) t h.0 h.1 (ap (λ r. path_eq r p) h.2 ∙ path_eq_refl p)

-- what isn't free, and neither a file nor a link, is a folder
is_folder : (t : Tree) (p : Path) → is_none t p ≡ false → is_file t p ≡ false → is_link t p ≡ false → IsFolderAt t p
is_folder t [] h f l = inl refl
is_folder t (s ∷ p) h f l = inr (entry (map.get t (s ∷ p)) h f l)
  where
    entry : (r : Option Entry) → is_no_entry r ≡ false → is_file_entry r ≡ false → is_link_entry r ≡ false → r ≡ Some Folder
    entry None h f l = cc
    entry (Some Folder) h f l = refl
    entry (Some (File content)) h f l = cc
    entry (Some (LinkTo target)) h f l = cc

-- neither a file nor a link, and an empty folder only if it is the root
record Stays (f l r e : Bool) : Type 0 where
  file : f ≡ false
  link : l ≡ false
  root : e ≡ true → r ≡ true

-- where nothing is removed, that is how it is
stays : (f l r e : Bool) (u : Tree) → cond (f || l || (not r && e)) (Some u) None ≡ None → Stays f l r e
stays true l r e u h = cc
stays false true r e u h = cc
stays false false true e u h = record { file = refl; link = refl; root = λ k. refl }
stays false false false true u h = cc
stays false false false false u h = record { file = refl; link = refl; root = λ k. cc }

-- a path that is told to be the root is the root
root_is : (p : Path) → is_root p ≡ true → p ≡ []
root_is [] h = refl
root_is (s ∷ p) h = cc

-- a folder that isn't empty has children
any_child : (a b : Bool) → a ≡ true → (a && not b) ≡ false → b ≡ true
any_child true true e h = refl
any_child true false e h = cc
any_child false b e h = cc

-- where nothing can be removed, the reason that is told holds
pub removal_lacks : (t : Tree) (p : Path) → removed p t ≡ None → StaysThere p (not_gone t p) t
removal_lacks t p h =
    let s = stays (is_file t p) (is_link t p) (is_root p) (is_empty_dir t p) (map.remove t p) h in
    elim (cases_Bool (is_none t p)) [
      | inl free ↦ subst (λ b. StaysThere p (cond b NothingThere (cond (is_empty_dir t p) TheRoot NotEmpty)) t) (sym free) ((free_at t p).0 free)
      | inr there ↦
          let folder = is_folder t p there s.file s.link in
          subst (λ b. StaysThere p (cond b NothingThere (cond (is_empty_dir t p) TheRoot NotEmpty)) t) (sym there) (elim (cases_Bool (is_empty_dir t p)) [
            | inl empty ↦ subst (λ b. StaysThere p (cond b TheRoot NotEmpty) t) (sym empty) (root_is p (s.root empty), ((empty_at t p).0 empty).1)
            | inr full ↦ subst (λ b. StaysThere p (cond b TheRoot NotEmpty) t) (sym full)
                (folder, has_child t p (any_child (is_dir t p) (list_any (λ q. path_eq (parent q) p) (map.keys t)) ((folder_at t p).1 folder) full))
          ])
    ]

-- a folder isn't free
not_free : (t : Tree) (p : Path) → IsFolderAt t p → is_none t p ≡ false
not_free t [] h = refl
not_free t (s ∷ p) h = elim h [ inl e ↦ cc | inr e ↦ ap is_no_entry e ]

-- a path with a child is no empty folder
full : (t : Tree) (p : Path) → HasChild t p → is_empty_dir t p ≡ false
full t p h = off_and (is_dir t p) _ (child_passes t p h)
  where
    off_and : (a b : Bool) → b ≡ true → (a && not b) ≡ false
    off_and true true h = refl
    off_and false true h = refl
    off_and a false h = cc

-- and each reason that holds of a removal is the one that is told
pub removal_reason : (t : Tree) (p : Path) (r : Reason) → StaysThere p r t → r ≡ not_gone t p
removal_reason t p NothingThere h = sym (ap (λ b. cond b NothingThere (cond (is_empty_dir t p) TheRoot NotEmpty)) ((free_at t p).1 h))
removal_reason t p NotEmpty h =
    sym (ap (λ b. cond b NothingThere (cond (is_empty_dir t p) TheRoot NotEmpty)) (not_free t p h.0) ∙ ap (λ b. cond b TheRoot NotEmpty) (full t p h.1))
removal_reason t p TheRoot h =
    let folder : IsFolderAt t p = inl h.0 in
    sym (ap (λ b. cond b NothingThere (cond (is_empty_dir t p) TheRoot NotEmpty)) (not_free t p folder) ∙ ap (λ b. cond b TheRoot NotEmpty) ((empty_at t p).1 (folder, h.1)))
removal_reason t p Exists h = absurd h
removal_reason t p NoFolder h = absurd h
removal_reason t p NoFile h = absurd h
removal_reason t p (Needs a) h = absurd h
removal_reason t p Always h = absurd h

-- ---- a copy

-- where there is a file to be copied, its copy lacks what a new entry lacks
with_file : (t : Tree) (from p : Path) → IsFileAt t from → HasNoPlace p (no_place t p) t → HasNoCopy from p (no_place t p) t
with_file t from p file h = elim (is_none t p) as (λ b. HasNoPlace p (cond b NoFolder Exists) t → HasNoCopy from p (cond b NoFolder Exists) t) [
  | true ↦ λ k. (file, k)
  | false ↦ λ k. (file, k)
] h

-- a copy of a file fails where a file with its content can't be made
copy_made : (t : Tree) (from p : Path) (r : Option Entry) (content : List ℕ) → r ≡ Some (File content) → copied r p t ≡ None → made p (File content) t ≡ None
copy_made t from p r content e h = ap (λ s. copied s p t) (sym e) ∙ h

-- where no file can be copied, the reason that is told holds
pub copy_lacks : (t : Tree) (from p : Path) → copied (map.get t from) p t ≡ None → HasNoCopy from p (no_copy t from p) t
copy_lacks t from p h = elim (cases_Bool (is_file t from)) [
  | inl file ↦
      let there = (file_at t from).0 file in
      subst (λ b. HasNoCopy from p (cond b (no_place t p) NoFile) t) (sym file)
      (with_file t from p there (place_lacks t p (File there.0) (copy_made t from p (map.get t from) there.0 there.1 h)))
  | inr no_file ↦ subst (λ b. HasNoCopy from p (cond b (no_place t p) NoFile) t) (sym no_file) (λ f. off (is_file t from) no_file ((file_at t from).1 f))
]

-- where there is a file to be copied, each reason that holds of its place is the one that is told
copy_with : (t : Tree) (from p : Path) (r : Reason) → IsFileAt t from → HasNoPlace p r t → r ≡ no_copy t from p
copy_with t from p r file h = place_reason t p r h ∙ sym (ap (λ b. cond b (no_place t p) NoFile) ((file_at t from).1 file))

-- each reason that holds of a copy is the one that is told
pub copy_reason : (t : Tree) (from p : Path) (r : Reason) → HasNoCopy from p r t → r ≡ no_copy t from p
copy_reason t from p NoFile h = sym (ap (λ b. cond b (no_place t p) NoFile) (false_from_ne_true (is_file t from) (λ f. h ((file_at t from).0 f))))
copy_reason t from p Exists h = copy_with t from p Exists h.0 h.1
copy_reason t from p NoFolder h = copy_with t from p NoFolder h.0 h.1
copy_reason t from p NothingThere h = absurd h.1
copy_reason t from p NotEmpty h = absurd h.1
copy_reason t from p TheRoot h = absurd h.1
copy_reason t from p (Needs a) h = absurd h.1
copy_reason t from p Always h = absurd h.1
