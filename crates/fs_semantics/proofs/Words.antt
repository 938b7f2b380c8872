-- Tests and changes, in words.
use Rattle.std.proofs.Common.{◌≡◌, ◌≢◌, ◌⊎◌, inl, inr, ℕ, Bool, true, false, not, cond, ◌&&◌, ◌||◌, List, [], ◌∷◌, Option, Some, None, refl, sym, ap, subst, ◌∙◌}
use Rattle.std.specs.Prelude.{◌↔◌, IsTrue}
use Rattle.std.specs.List.{list_any}
use Rattle.std.specs.FinMap as map
use Rattle.std.specs.FinMap.{same_map}
use Rattle.std.proofs.lemmas.Bool.{and_parts, and_from, or_cases, or_left, or_right}
use Rattle.fs_semantics.specs.FileTree.{Path, Entry, Folder, File, Link as LinkTo, Tree, parent, path_eq, is_root, is_file, is_link, is_dir, is_none, is_empty_dir, is_file_entry, is_link_entry, is_folder_entry, is_no_entry}
use Rattle.fs_semantics.specs.Entries.{IsFileAt, IsLinkAt, IsFolderAt, IsFreeAt, HasNoChild, IsEmptyFolder, IsWith, Makes, Removes, Copies}
use Rattle.fs_semantics.specs.Programs.{Test, Not, And, Or, Program, Programs, Steps, If, next, Outcome, and_then, holds, made, removed, copied, run, run_all}
use Rattle.fs_semantics.proofs.Trees.{path_total, path_same, path_eq_refl, path_eq_same, at_inserted, at_other, at_removed, at_kept}
use Rattle.fs_semantics.proofs.ConstructLaws.{made_is, removed_is, copied_is, split_then, at_or_other}
use Rattle.fs_semantics.proofs.Keys.{key_from, key_passes}

-- trees with the same entries are the same
pub same_tree : (t u : Tree) → ((p : Path) → map.get t p ≡ map.get u p) → t ≡ u
same_tree t u same = same_map path_total path_same t u same

-- ---- tests

-- an entry is told to be a file exactly where it is one with some content
file_entry : (r : Option Entry) → (is_file_entry r ≡ true) ↔ ((content : List ℕ) × (r ≡ Some (File content)))
file_entry None = ((λ h. cc), (λ h. cc))
file_entry (Some Folder) = ((λ h. cc), (λ h. cc))
file_entry (Some (File content)) = ((λ h. (content, refl)), (λ h. refl))
file_entry (Some (LinkTo target)) = ((λ h. cc), (λ h. cc))

-- an entry is told to be a link exactly where it is one with some target
link_entry : (r : Option Entry) → (is_link_entry r ≡ true) ↔ ((target : List ℕ) × (r ≡ Some (LinkTo target)))
link_entry None = ((λ h. cc), (λ h. cc))
link_entry (Some Folder) = ((λ h. cc), (λ h. cc))
link_entry (Some (File content)) = ((λ h. cc), (λ h. cc))
link_entry (Some (LinkTo target)) = ((λ h. (target, refl)), (λ h. refl))

-- an entry is told to be a folder exactly where it is one
folder_entry : (r : Option Entry) → (is_folder_entry r ≡ true) ↔ (r ≡ Some Folder)
folder_entry None = ((λ h. cc), (λ h. cc))
folder_entry (Some Folder) = ((λ h. refl), (λ h. refl))
folder_entry (Some (File content)) = ((λ h. cc), (λ h. cc))
folder_entry (Some (LinkTo target)) = ((λ h. cc), (λ h. cc))

-- no entry is told to be there exactly where none is
no_entry : (r : Option Entry) → (is_no_entry r ≡ true) ↔ (r ≡ None)
no_entry None = ((λ h. refl), (λ h. refl))
no_entry (Some x) = ((λ h. cc), (λ h. cc))

-- the test for a file holds exactly where a file stands at the path
pub file_at : (t : Tree) (p : Path) → IsTrue (is_file t p) ↔ IsFileAt t p
file_at t p = file_entry (map.get t p)

-- the test for a link holds exactly where a link stands at the path
pub link_at : (t : Tree) (p : Path) → IsTrue (is_link t p) ↔ IsLinkAt t p
link_at t p = link_entry (map.get t p)

-- the test for a folder holds exactly where a folder stands at the path, or it is the root
pub folder_at : (t : Tree) (p : Path) → IsTrue (is_dir t p) ↔ IsFolderAt t p
folder_at t [] = ((λ h. inl refl), (λ h. refl))
folder_at t (s ∷ p) = ((λ h. inr ((folder_entry (map.get t (s ∷ p))).0 h)), (λ h. elim h [ inl e ↦ cc | inr e ↦ (folder_entry (map.get t (s ∷ p))).1 e ]))

-- the test for a free place holds exactly where nothing stands at the path, and it isn't the root
pub free_at : (t : Tree) (p : Path) → IsTrue (is_none t p) ↔ IsFreeAt t p
free_at t [] = ((λ h. cc), (λ h. absurd (h.0 refl)))
free_at t (s ∷ p) = ((λ h. ((λ e. cc), (no_entry (map.get t (s ∷ p))).0 h)), (λ h. (no_entry (map.get t (s ∷ p))).1 h.1))

-- a negation is true exactly where the other isn't
pub not_word : (b : Bool) → (not b ≡ true) ↔ (b ≡ true → ⊥)
not_word true = ((λ h. cc), (λ h. absurd (h refl)))
not_word false = ((λ h e. cc), (λ h. refl))

-- no key has the path as its parent exactly where it has no child
pub no_child : (t : Tree) (p : Path) → (not (list_any (λ q. path_eq (parent q) p) (map.keys t)) ≡ true) ↔ HasNoChild t p
no_child t p =
    let word = not_word (list_any (λ q. path_eq (parent q) p) (map.keys t)) in (
      (λ h q there e. word.0 h (key_passes (λ q. path_eq (parent q) p) t q there (ap (λ r. path_eq r p) e ∙ path_eq_refl p))),
      (λ h. word.1 (λ e. let k = key_from (λ q. path_eq (parent q) p) t e in h k.0 k.1 (path_eq_same (parent k.0) p k.2))),
    )

-- the test for an empty folder holds exactly where a folder without children stands at the path
pub empty_at : (t : Tree) (p : Path) → IsTrue (is_empty_dir t p) ↔ (IsFolderAt t p × HasNoChild t p)
empty_at t p = (
  (λ h. let two = and_parts (is_dir t p) (not (list_any (λ q. path_eq (parent q) p) (map.keys t))) h in ((folder_at t p).0 two.0, (no_child t p).0 two.1)),
  (λ h. and_from _ _ ((folder_at t p).1 h.0) ((no_child t p).1 h.1)),
)

-- a negated test holds exactly where the test doesn't
pub not_holds : (a : Test) (t : Tree) → IsTrue (holds (Not a) t) ↔ (IsTrue (holds a t) → ⊥)
not_holds a t = not_word (holds a t)

-- a conjunction of tests holds exactly where both do
pub and_holds : (a b : Test) (t : Tree) → IsTrue (holds (And a b) t) ↔ (IsTrue (holds a t) × IsTrue (holds b t))
and_holds a b t = ((λ h. and_parts (holds a t) (holds b t) h), (λ h. and_from _ _ h.0 h.1))

-- a disjunction of tests holds exactly where one of them does
pub or_holds : (a b : Test) (t : Tree) → IsTrue (holds (Or a b) t) ↔ (IsTrue (holds a t) ⊎ IsTrue (holds b t))
or_holds a b t = (
  (λ h. or_cases (holds a t) (holds b t) h),
  (λ h. elim h [ inl e ↦ or_left _ _ e | inr e ↦ or_right _ _ e ]),
)

-- ---- changes

-- a tree with an entry put in has it at its path, and is as before elsewhere
pub with_inserted : (t : Tree) (p : Path) (x : Entry) → IsWith t (map.insert t p x) p (Some x)
with_inserted t p x = record { here = at_inserted t p x; elsewhere = λ q other. at_other t p q x other }

-- a tree with an entry removed has none at its path, and is as before elsewhere
pub with_removed : (t : Tree) (p : Path) → IsWith t (map.remove t p) p None
with_removed t p = record { here = at_removed t p; elsewhere = λ q other. at_kept t p q other }

-- two trees that differ from t alike are the same
pub same_with : (t u v : Tree) (p : Path) (x : Option Entry) → IsWith t u p x → IsWith t v p x → u ≡ v
same_with t u v p x a b = same_tree u v (λ q. at_or_other (λ r. map.get u r ≡ map.get v r) p q (a.here ∙ sym b.here) (λ other. a.elsewhere q other ∙ sym (b.elsewhere q other)))

-- a step whose test is true ends in its tree
done : (b : Bool) (u v : Tree) → b ≡ true → u ≡ v → cond b (Some u) None ≡ Some v
done true u v h e = ap (λ t. Some t) e
done false u v h e = cc

-- making an entry ends in a tree exactly where its place is free below a folder, and leaves just that entry more
pub made_word : (p : Path) (x : Entry) (t u : Tree) → (made p x t ≡ Some u) ↔ Makes p x t u
made_word p x t u = (
  (λ h. let m = made_is p x t u h in
      record { free = (free_at t p).0 m.free; above = (folder_at t (parent p)).0 m.above; leaves = subst (λ v. IsWith t v p (Some x)) m.is (with_inserted t p x) }),
  (λ m. done (is_none t p && is_dir t (parent p)) (map.insert t p x) u (and_from _ _ ((free_at t p).1 m.free) ((folder_at t (parent p)).1 m.above))
      (same_with t (map.insert t p x) u p (Some x) (with_inserted t p x) m.leaves)),
)

-- a path is told not to be the root exactly where it isn't
not_root : (p : Path) → (not (is_root p) ≡ true) ↔ (p ≢ [])
not_root [] = ((λ h. cc), (λ h. absurd (h refl)))
not_root (s ∷ p) = ((λ h e. cc), (λ h. refl))

-- an entry may go exactly where it is a file, a link or an empty folder
goes_word : (t : Tree) (p : Path) → ((is_file t p || is_link t p || (not (is_root p) && is_empty_dir t p)) ≡ true) ↔ (IsFileAt t p ⊎ (IsLinkAt t p ⊎ IsEmptyFolder t p))
goes_word t p = (
  (λ h. elim (or_cases (is_file t p || is_link t p) (not (is_root p) && is_empty_dir t p) h) [
    | inl a ↦ elim (or_cases (is_file t p) (is_link t p) a) [ inl f ↦ inl ((file_at t p).0 f) | inr l ↦ inr (inl ((link_at t p).0 l)) ]
    | inr b ↦
        let two = and_parts (not (is_root p)) (is_empty_dir t p) b in
        let empty = (empty_at t p).0 two.1 in
        inr (inr (record { not_root = (not_root p).0 two.0; folder = empty.0; childless = empty.1 }))
  ]),
  (λ h. elim h [
    | inl f ↦ or_left _ _ (or_left _ _ ((file_at t p).1 f))
    | inr more ↦ elim more [
      | inl l ↦ or_left _ _ (or_right _ _ ((link_at t p).1 l))
      | inr e ↦ or_right _ _ (and_from _ _ ((not_root p).1 e.not_root) ((empty_at t p).1 (e.folder, e.childless)))
    ]
  ]),
)

-- removing ends in a tree exactly where the entry may go, and leaves the tree without it
pub removed_word : (p : Path) (t u : Tree) → (removed p t ≡ Some u) ↔ Removes p t u
removed_word p t u = (
  (λ h. let r = removed_is p t u h in record { goes = (goes_word t p).0 r.0; leaves = subst (λ v. IsWith t v p None) r.1 (with_removed t p) }),
  (λ r. done (is_file t p || is_link t p || (not (is_root p) && is_empty_dir t p)) (map.remove t p) u ((goes_word t p).1 r.goes)
      (same_with t (map.remove t p) u p None (with_removed t p) r.leaves)),
)

-- copying ends in a tree exactly where there is a file to copy and a place for it, and leaves just that file more
pub copied_word : (from p : Path) (t u : Tree) → (copied (map.get t from) p t ≡ Some u) ↔ Copies from p t u
copied_word from p t u = (
  (λ h. let c = copied_is (map.get t from) p t u h in record { content = c.0; file = c.1; makes = (made_word p (File c.0) t u).0 c.2 }),
  (λ c. ap (λ r. copied r p t) c.file ∙ (made_word p (File c.content) t u).1 c.makes),
)

-- steps end in a tree exactly where the first does and the others do from there
pub steps_word : (e : Program) (es : Programs) (t v : Tree) → (run (Steps (next e es)) t ≡ Some v) ↔ ((u : Tree) × (run e t ≡ Some u) × (run (Steps es) u ≡ Some v))
steps_word e es t v = (
  (λ h. split_then (run e t) (run_all es) v h),
  (λ h. ap (λ r. and_then r (run_all es)) h.1 ∙ h.2),
)

-- a choice ends in a tree exactly where the branch does that the test tells
choice : (b : Bool) (r s : Outcome) (u : Tree) → (cond b r s ≡ Some u) ↔ (((b ≡ true) × (r ≡ Some u)) ⊎ ((b ≡ true → ⊥) × (s ≡ Some u)))
choice true r s u = ((λ h. inl (refl, h)), (λ h. elim h [ inl a ↦ a.1 | inr b ↦ absurd (b.0 refl) ]))
choice false r s u = ((λ h. inr ((λ e. cc), h)), (λ h. elim h [ inl a ↦ cc | inr b ↦ b.1 ]))

-- a conditional ends in a tree exactly where the branch does that its test tells
pub if_word : (a : Test) (e f : Program) (t u : Tree)
    → (run (If a e f) t ≡ Some u) ↔ ((IsTrue (holds a t) × (run e t ≡ Some u)) ⊎ ((IsTrue (holds a t) → ⊥) × (run f t ≡ Some u)))
if_word a e f t u = choice (holds a t) (run e t) (run f t) u
